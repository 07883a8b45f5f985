-- What is held by the encodings of a poll is what the decoder answers.
use Rattle.std.proofs.Common.{◌≡◌, ℕ, ◌≤◌, List, option_and_then}
use Rattle.election_tables.specs.Limits.{most_voters}
use Rattle.election_tables.specs.TablesData.{IsTables, TablesData}
use Rattle.image_codec.specs.Decoded.{decoded, rank_in}
use Rattle.image_codec.specs.Layout.{body_size}
use Rattle.twin_image.specs.Held.{held_body}
use Rattle.flash_store.specs.Held.{bodies_of_both, open_bodies}
use Rattle.flash_store.proofs.Holding.{both_ranked, found_answer, found_no_answer, held_found, none_found, open_ranked, ranked}
use Rattle.state_store.specs.Held.{poll}
use Rattle.state_store.specs.Laws.{HeldIsDecoded, IsDecodedFrom}
use Rattle.state_store.proofs.Stored.{reads}

module _ (t : TablesData) (voters : ℕ) (tables : IsTables t) (few : voters ≤ most_voters) (bodies xs : List (List ℕ)) (same : xs ≡ ranked body_size (rank_in t voters) bodies) where
  decoded_from : IsDecodedFrom t voters bodies (option_and_then (decoded t voters) (held_body (rank_in t voters) xs))
  decoded_from =
      let reading = reads t voters tables few in (
        λ s. (held_found (poll t voters) (decoded t voters) reading bodies xs same s, found_answer (poll t voters) (decoded t voters) reading bodies xs same s),
        (none_found (poll t voters) (decoded t voters) reading bodies xs same, found_no_answer (poll t voters) (decoded t voters) reading bodies xs same),
      )

pub held_decoded : HeldIsDecoded
held_decoded t voters internal external tables few = (
  decoded_from t voters tables few (bodies_of_both body_size internal external) _ (both_ranked body_size (rank_in t voters) internal external),
  decoded_from t voters tables few (open_bodies body_size internal) _ (open_ranked body_size (rank_in t voters) internal),
)
