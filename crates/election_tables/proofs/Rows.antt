-- Worked rows: documents, and the first rule that each breaks; some federations, and the numbers of their blocs.
use Rattle.std.proofs.Common.{◌≡◌, ℕ, List, [], ◌∷◌, ◌++◌, map, true, false, refl, codes, Option, Some, None, option_map}
use Rattle.toml.specs.Parse.{parse_document}
use Rattle.toml.proofs.OnLiterals.{toml_on_literals}
use Rattle.urna_base.specs.Moment.{is_date}
use Rattle.election_tables.specs.Shape.{is_key}
use Rattle.election_tables.specs.Offices.{row_of}
use Rattle.election_tables.specs.Rules.{broken_rule, rules, shape_rules, typed_rules}
use Rattle.election_tables.specs.TablesData.{bloc_of, is_federation}
use Rattle.election_tables.specs.declared.tables.federations.Federation.{Federation}

-- the first rule that the document breaks, where the bytes are one
abbrev fault : List ℕ → Option (Option ℕ)
fault bytes = option_map broken_rule (parse_document bytes)

-- ---- the parts of the documents: tables with two offices, and tables with one

abbrev head : List ℕ
head = codes "processo = 7\ndata = 20261004\nturno = 1\n"

abbrev two_offices : List ℕ
two_offices = codes "cargo = [\n  {codigo = 13, regra = \"proporcional\", cadeiras = 5},\n  {codigo = 11, regra = \"absoluta\", cadeiras = 1},\n]\n"

abbrev one_office : List ℕ
one_office = codes "cargo = [{codigo = 11, regra = \"absoluta\", cadeiras = 1}]\n"

abbrev parties : List ℕ
parties = codes "partido = [\n  {numero = 13, nome = \"PA\"},\n  {numero = 45, nome = \"PB\"},\n]\n"

abbrev candidates_of_two : List ℕ
candidates_of_two = codes "candidato = [\n  {cargo = 13, numero = 13001, nascimento = 19700101, nome = \"ANA\"},\n  {cargo = 13, numero = 45001, nascimento = 19650520, nome = \"BRUNO\"},\n  {cargo = 11, numero = 13, nascimento = 19600303, nome = \"CARLA\"},\n  {cargo = 11, numero = 45, nascimento = 19751212, nome = \"DAVI\"},\n]\n"

abbrev candidates_of_one : List ℕ
candidates_of_one = codes "candidato = [\n  {cargo = 11, numero = 13, nascimento = 19600303, nome = \"CARLA\"},\n  {cargo = 11, numero = 45, nascimento = 19751212, nome = \"DAVI\"},\n]\n"

abbrev three_voters : List ℕ
three_voters = codes "secao = [{zona = 1, secao = 42, eleitores = 3}]\n"

abbrev one_voter : List ℕ
one_voter = codes "secao = [{zona = 1, secao = 42, eleitores = 1}]\n"

-- ---- rows

-- tables with two offices keep every rule
pub tables_a : fault (head ++ two_offices ++ parties ++ candidates_of_two ++ three_voters) ≡ Some None
unfolding toml_on_literals is_key is_date row_of broken_rule rules shape_rules typed_rules
tables_a = refl

-- tables with one office keep every rule
pub tables_b : fault (head ++ one_office ++ parties ++ candidates_of_one ++ one_voter) ≡ Some None
unfolding toml_on_literals is_key is_date row_of broken_rule rules shape_rules typed_rules
tables_b = refl

-- no turno
pub no_turn : fault (codes "processo = 7\ndata = 20261004\n" ++ one_office ++ parties ++ candidates_of_one ++ one_voter) ≡ Some (Some 1)
unfolding toml_on_literals is_key is_date row_of broken_rule rules shape_rules typed_rules
no_turn = refl

-- a candidate without nascimento
pub no_birth : fault (head ++ one_office ++ parties ++ codes "candidato = [\n  {cargo = 11, numero = 13, nome = \"CARLA\"},\n  {cargo = 11, numero = 45, nascimento = 19751212, nome = \"DAVI\"},\n]\n" ++ one_voter) ≡ Some (Some 1)
unfolding toml_on_literals is_key is_date row_of broken_rule rules shape_rules typed_rules
no_birth = refl

-- an array with a number and an empty table: the table lacks keys
pub office_of_number : fault (head ++ codes "cargo = [1, {}]\n" ++ parties ++ candidates_of_one ++ one_voter) ≡ Some (Some 1)
unfolding toml_on_literals is_key is_date row_of broken_rule rules shape_rules typed_rules
office_of_number = refl

-- an array of numbers in the place of the offices
pub offices_a_number : fault (head ++ codes "cargo = [1]\n" ++ parties ++ candidates_of_one ++ one_voter) ≡ Some (Some 2)
unfolding toml_on_literals is_key is_date row_of broken_rule rules shape_rules typed_rules
offices_a_number = refl

-- a table in the place of the offices
pub offices_a_table : fault (head ++ codes "cargo = {}\n" ++ parties ++ candidates_of_one ++ one_voter) ≡ Some (Some 2)
unfolding toml_on_literals is_key is_date row_of broken_rule rules shape_rules typed_rules
offices_a_table = refl

-- a turno that is a text
pub turn_text : fault (codes "processo = 7\ndata = 20261004\nturno = \"1\"\n" ++ one_office ++ parties ++ candidates_of_one ++ one_voter) ≡ Some (Some 2)
unfolding toml_on_literals is_key is_date row_of broken_rule rules shape_rules typed_rules
turn_text = refl

-- a key that is not in the table
pub extra_key : fault (head ++ one_office ++ parties ++ candidates_of_one ++ one_voter ++ codes "extra = 1\n") ≡ Some (Some 3)
unfolding toml_on_literals is_key is_date row_of broken_rule rules shape_rules typed_rules
extra_key = refl

-- a section with another key
pub extra_in_section : fault (head ++ one_office ++ parties ++ candidates_of_one ++ codes "secao = [{zona = 1, secao = 42, eleitores = 1, x = 2}]\n") ≡ Some (Some 3)
unfolding toml_on_literals is_key is_date row_of broken_rule rules shape_rules typed_rules
extra_in_section = refl

-- no office: an empty array is an array of tables
pub no_offices : fault (head ++ codes "cargo = []\n" ++ parties ++ candidates_of_one ++ one_voter) ≡ Some (Some 4)
unfolding toml_on_literals is_key is_date row_of broken_rule rules shape_rules typed_rules
no_offices = refl

-- month 13
pub bad_date : fault (codes "processo = 7\ndata = 20261304\nturno = 1\n" ++ one_office ++ parties ++ candidates_of_one ++ one_voter) ≡ Some (Some 4)
unfolding toml_on_literals is_key is_date row_of broken_rule rules shape_rules typed_rules
bad_date = refl

-- a negative number
pub negative : fault (codes "processo = -7\ndata = 20261004\nturno = 1\n" ++ one_office ++ parties ++ candidates_of_one ++ one_voter) ≡ Some (Some 4)
unfolding toml_on_literals is_key is_date row_of broken_rule rules shape_rules typed_rules
negative = refl

-- an empty name
pub empty_name : fault (head ++ one_office ++ parties ++ codes "candidato = [\n  {cargo = 11, numero = 13, nascimento = 19600303, nome = \"\"},\n  {cargo = 11, numero = 45, nascimento = 19751212, nome = \"DAVI\"},\n]\n" ++ one_voter) ≡ Some (Some 4)
unfolding toml_on_literals is_key is_date row_of broken_rule rules shape_rules typed_rules
empty_name = refl

-- a code that no office has
pub code_two : fault (head ++ codes "cargo = [{codigo = 2, regra = \"absoluta\", cadeiras = 1}]\n" ++ parties ++ candidates_of_one ++ one_voter) ≡ Some (Some 5)
unfolding toml_on_literals is_key is_date row_of broken_rule rules shape_rules typed_rules
code_two = refl

-- an office twice
pub office_twice : fault (head ++ codes "cargo = [{codigo = 11, regra = \"absoluta\", cadeiras = 1}, {codigo = 11, regra = \"absoluta\", cadeiras = 1}]\n" ++ parties ++ candidates_of_one ++ one_voter) ≡ Some (Some 5)
unfolding toml_on_literals is_key is_date row_of broken_rule rules shape_rules typed_rules
office_twice = refl

-- a senator by the absolute majority
pub kind_of_senator : fault (head ++ codes "cargo = [{codigo = 5, regra = \"absoluta\", cadeiras = 1}]\n" ++ parties ++ candidates_of_one ++ one_voter) ≡ Some (Some 6)
unfolding toml_on_literals is_key is_date row_of broken_rule rules shape_rules typed_rules
kind_of_senator = refl

-- a regra that is none of the three
pub kind_unknown : fault (head ++ codes "cargo = [{codigo = 11, regra = \"outra\", cadeiras = 1}]\n" ++ parties ++ candidates_of_one ++ one_voter) ≡ Some (Some 6)
unfolding toml_on_literals is_key is_date row_of broken_rule rules shape_rules typed_rules
kind_unknown = refl

-- a party 9
pub party_nine : fault (head ++ two_offices ++ codes "partido = [\n  {numero = 9, nome = \"PA\"},\n  {numero = 45, nome = \"PB\"},\n]\n" ++ candidates_of_two ++ three_voters) ≡ Some (Some 7)
unfolding toml_on_literals is_key is_date row_of broken_rule rules shape_rules typed_rules
party_nine = refl

-- party 45 twice
pub party_twice : fault (head ++ two_offices ++ codes "partido = [\n  {numero = 45, nome = \"PA\"},\n  {numero = 45, nome = \"PB\"},\n]\n" ++ candidates_of_two ++ three_voters) ≡ Some (Some 8)
unfolding toml_on_literals is_key is_date row_of broken_rule rules shape_rules typed_rules
party_twice = refl

-- a candidate 45 of office 13
pub candidate_short : fault (head ++ two_offices ++ parties ++ codes "candidato = [\n  {cargo = 13, numero = 13001, nascimento = 19700101, nome = \"ANA\"},\n  {cargo = 13, numero = 45, nascimento = 19650520, nome = \"BRUNO\"},\n  {cargo = 11, numero = 13, nascimento = 19600303, nome = \"CARLA\"},\n  {cargo = 11, numero = 45, nascimento = 19751212, nome = \"DAVI\"},\n]\n" ++ three_voters) ≡ Some (Some 9)
unfolding toml_on_literals is_key is_date row_of broken_rule rules shape_rules typed_rules
candidate_short = refl

-- a candidate of an office that is not in the tables
pub candidate_of_no_office : fault (head ++ one_office ++ parties ++ codes "candidato = [\n  {cargo = 3, numero = 13, nascimento = 19600303, nome = \"CARLA\"},\n  {cargo = 11, numero = 45, nascimento = 19751212, nome = \"DAVI\"},\n]\n" ++ one_voter) ≡ Some (Some 9)
unfolding toml_on_literals is_key is_date row_of broken_rule rules shape_rules typed_rules
candidate_of_no_office = refl

-- a candidate whose party is not in the tables
pub candidate_of_no_party : fault (head ++ two_offices ++ parties ++ codes "candidato = [\n  {cargo = 13, numero = 13001, nascimento = 19700101, nome = \"ANA\"},\n  {cargo = 13, numero = 46001, nascimento = 19650520, nome = \"BRUNO\"},\n  {cargo = 11, numero = 13, nascimento = 19600303, nome = \"CARLA\"},\n  {cargo = 11, numero = 45, nascimento = 19751212, nome = \"DAVI\"},\n]\n" ++ three_voters) ≡ Some (Some 10)
unfolding toml_on_literals is_key is_date row_of broken_rule rules shape_rules typed_rules
candidate_of_no_party = refl

-- two candidates 13 of office 11
pub candidate_twice : fault (head ++ one_office ++ parties ++ codes "candidato = [\n  {cargo = 11, numero = 13, nascimento = 19600303, nome = \"CARLA\"},\n  {cargo = 11, numero = 13, nascimento = 19751212, nome = \"DAVI\"},\n]\n" ++ one_voter) ≡ Some (Some 11)
unfolding toml_on_literals is_key is_date row_of broken_rule rules shape_rules typed_rules
candidate_twice = refl

-- day 32
pub bad_birth : fault (head ++ one_office ++ parties ++ codes "candidato = [\n  {cargo = 11, numero = 13, nascimento = 19600332, nome = \"CARLA\"},\n  {cargo = 11, numero = 45, nascimento = 19751212, nome = \"DAVI\"},\n]\n" ++ one_voter) ≡ Some (Some 12)
unfolding toml_on_literals is_key is_date row_of broken_rule rules shape_rules typed_rules
bad_birth = refl

-- section 42 of zone 1 twice
pub section_twice : fault (head ++ one_office ++ parties ++ candidates_of_one ++ codes "secao = [{zona = 1, secao = 42, eleitores = 9}, {zona = 1, secao = 42, eleitores = 1}]\n") ≡ Some (Some 13)
unfolding toml_on_literals is_key is_date row_of broken_rule rules shape_rules typed_rules
section_twice = refl

-- two seats of a majority office
pub two_seats : fault (head ++ codes "cargo = [{codigo = 11, regra = \"absoluta\", cadeiras = 2}]\n" ++ parties ++ candidates_of_one ++ one_voter) ≡ Some (Some 14)
unfolding toml_on_literals is_key is_date row_of broken_rule rules shape_rules typed_rules
two_seats = refl

-- a later fault of rule 7 comes before an earlier one of rule 8
pub first_of_two : fault (head ++ two_offices ++ codes "partido = [\n  {numero = 45, nome = \"PA\"},\n  {numero = 100, nome = \"PB\"},\n]\n" ++ candidates_of_two ++ three_voters) ≡ Some (Some 7)
unfolding toml_on_literals is_key is_date row_of broken_rule rules shape_rules typed_rules
first_of_two = refl

-- no TOML
pub no_toml : fault (codes "processo 7\n") ≡ None
unfolding toml_on_literals
no_toml = refl

-- ---- federations

-- tables with one office and these federations
abbrev federated : List ℕ → Option (Option ℕ)
federated federations = fault (head ++ one_office ++ parties ++ candidates_of_one ++ one_voter ++ codes "federacao = " ++ federations ++ codes "\n")

-- a federation of both parties keeps every rule
pub federation : federated (codes "[{nome = \"FA\", partidos = [45, 13]}]") ≡ Some None
unfolding toml_on_literals is_key is_date row_of broken_rule rules shape_rules typed_rules
federation = refl

-- no federation: an empty array
pub no_federation : federated (codes "[]") ≡ Some None
unfolding toml_on_literals is_key is_date row_of broken_rule rules shape_rules typed_rules
no_federation = refl

-- a federation without partidos
pub federation_without_parties : federated (codes "[{nome = \"FA\"}]") ≡ Some (Some 1)
unfolding toml_on_literals is_key is_date row_of broken_rule rules shape_rules typed_rules
federation_without_parties = refl

-- a table in the place of the federations
pub federations_a_table : federated (codes "{}") ≡ Some (Some 2)
unfolding toml_on_literals is_key is_date row_of broken_rule rules shape_rules typed_rules
federations_a_table = refl

-- a text among the numbers
pub federation_of_text : federated (codes "[{nome = \"FA\", partidos = [13, \"45\"]}]") ≡ Some (Some 2)
unfolding toml_on_literals is_key is_date row_of broken_rule rules shape_rules typed_rules
federation_of_text = refl

-- a federation with another key
pub extra_in_federation : federated (codes "[{nome = \"FA\", partidos = [13, 45], sigla = \"F\"}]") ≡ Some (Some 3)
unfolding toml_on_literals is_key is_date row_of broken_rule rules shape_rules typed_rules
extra_in_federation = refl

-- a federation with an empty name
pub federation_unnamed : federated (codes "[{nome = \"\", partidos = [13, 45]}]") ≡ Some (Some 4)
unfolding toml_on_literals is_key is_date row_of broken_rule rules shape_rules typed_rules
federation_unnamed = refl

-- a federation of one number, which is no party's either
pub federation_of_one : federated (codes "[{nome = \"FA\", partidos = [20]}]") ≡ Some (Some 15)
unfolding toml_on_literals is_key is_date row_of broken_rule rules shape_rules typed_rules
federation_of_one = refl

-- a federation of no party
pub federation_of_none : federated (codes "[{nome = \"FA\", partidos = []}]") ≡ Some (Some 15)
unfolding toml_on_literals is_key is_date row_of broken_rule rules shape_rules typed_rules
federation_of_none = refl

-- a number that is no party's
pub member_no_party : federated (codes "[{nome = \"FA\", partidos = [13, 20]}]") ≡ Some (Some 16)
unfolding toml_on_literals is_key is_date row_of broken_rule rules shape_rules typed_rules
member_no_party = refl

-- a party twice in one federation
pub member_twice : federated (codes "[{nome = \"FA\", partidos = [13, 13]}]") ≡ Some (Some 17)
unfolding toml_on_literals is_key is_date row_of broken_rule rules shape_rules typed_rules
member_twice = refl

-- parties in two federations
pub member_of_two : federated (codes "[{nome = \"FA\", partidos = [13, 45]}, {nome = \"FB\", partidos = [45, 13]}]") ≡ Some (Some 17)
unfolding toml_on_literals is_key is_date row_of broken_rule rules shape_rules typed_rules
member_of_two = refl

-- ---- blocs

-- two federations: of 45 and 13, and of 20, 31 and 30
abbrev two_federations : List Federation
two_federations = record { name = codes "FA"; parties = 45 ∷ 13 ∷ [] } ∷ record { name = codes "FB"; parties = 20 ∷ 31 ∷ 30 ∷ [] } ∷ []

-- the numbers of the blocs of 45, 30 and 99
pub numbers_of_blocs : map (bloc_of two_federations) (45 ∷ 30 ∷ 99 ∷ []) ≡ 13 ∷ 20 ∷ 99 ∷ []
numbers_of_blocs = refl

-- 13 and 20 are federations; 45, which is in one, and 99, which is in none, are not
pub numbers_of_federations : map (is_federation two_federations) (13 ∷ 20 ∷ 45 ∷ 99 ∷ []) ≡ true ∷ true ∷ false ∷ false ∷ []
numbers_of_federations = refl
