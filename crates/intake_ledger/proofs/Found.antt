-- What two flashes hold is one ledger, and flashes at rest hold theirs
use Rattle.std.proofs.Common.{◌≡◌, ℕ, inl, inr, List, [], length, option_and_then, sym, ap, ◌∙◌, arith}
use Rattle.urna_outside.specs.Flash.{Flashes, flash_of}
use Rattle.urna_outside.specs.Stop.{Left}
use Rattle.urna_outside.specs.Told.{AreSized, Sizes}
use Rattle.urna_outside.specs.declared.device.Dev.{Dev}
use Rattle.urna_outside.proofs.Places.{length-part}
use Rattle.election_tables.specs.TablesData.{TablesData}
use Rattle.gate_slot.specs.Slot.{header_size}
use Rattle.twin_image.specs.Held.{held_body}
use Rattle.twin_image.proofs.Renewing.{content_image}
use Rattle.flash_store.specs.Held.{HeldByBoth, IsEither, bodies_of_both, open_bodies}
use Rattle.flash_store.proofs.Holding.{both_ranked, found_answer, found_no_answer, held_found, none_found, one_held, open_ranked, ranked}
use Rattle.flash_store.proofs.Resting.{rest_framed, rest_holds}
use Rattle.intake_ledger.specs.Body.{decoded, rank_in}
use Rattle.intake_ledger.specs.Header.{header}
use Rattle.intake_ledger.specs.Kept.{AreDevices, AreFramed, ledgers}
use Rattle.intake_ledger.specs.Laws.{HeldIsDecoded, IsDecodedFrom, OneIsHeld, RestIsFound}
use Rattle.intake_ledger.specs.Layout.{body_size}
use Rattle.intake_ledger.proofs.Ranking.{decoded_stands}
use Rattle.intake_ledger.proofs.Reading.{reads}
use Rattle.intake_ledger.proofs.WholeBody.{whole}

pub one_is_held : OneIsHeld
one_is_held t bodies l m first second = one_held (ledgers t) (decoded t) (reads t) bodies l m first second

decoded_from : (t : TablesData) (bodies xs : List (List ℕ)) → xs ≡ ranked body_size (rank_in t) bodies → IsDecodedFrom t bodies (option_and_then (decoded t) (held_body (rank_in t) xs))
decoded_from t bodies xs same =
    let codec = ledgers t in (
      λ l. (held_found codec (decoded t) (reads t) bodies xs same l, found_answer codec (decoded t) (reads t) bodies xs same l),
      (none_found codec (decoded t) (reads t) bodies xs same, found_no_answer codec (decoded t) (reads t) bodies xs same),
    )

pub held_is_decoded : HeldIsDecoded
held_is_decoded t internal external = (
  decoded_from t (bodies_of_both body_size internal external) _ (both_ranked body_size (rank_in t) internal external),
  decoded_from t (open_bodies body_size internal) _ (open_ranked body_size (rank_in t) internal),
)

-- a header stands in front of a device of the size of a ledger's
headers_fit : (t : TablesData) (sizes : Sizes) (flashes : Flashes) → AreDevices sizes → AreSized sizes flashes → AreFramed t flashes → (d : Dev) → length (header t d) ≡ header_size
headers_fit t sizes flashes devices sized framed d =
    ap length (sym (framed d).at_front) ∙ length-part (flash_of d flashes).content 0 header_size (omega (arith, sized.content d, devices d))

-- one of two that are the same
the_one : {S : Type 0} (s : S) (held : S → Type 0) → IsEither s s held → held s
the_one s held (inl is) = is
the_one s held (inr is) = is

pub rest_is_found : RestIsFound
rest_is_found t l sizes flashes devices sized (body, stands, rest) =
    let long = (whole t body stands.whole).long in
    let framed = rest_framed body_size (header t) body long sizes flashes devices sized rest in
    let left : Left = record { internal = flashes.internal.content; external = flashes.external.content; shown = [] } in
    let held = rest_holds (ledgers t) (decoded t) (reads t) (header t) body l long (headers_fit t sizes flashes devices sized framed) (decoded_stands t l body stands)
    flashes left rest (content_image flashes.internal) (content_image flashes.external) in
    record { framed = framed; held = the_one l (HeldByBoth (ledgers t) left.internal left.external) held.both }
