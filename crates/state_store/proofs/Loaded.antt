-- Flashes at rest are a poll.
use Rattle.std.proofs.Common.{◌≡◌, inl, inr, ℕ, [], length, refl, sym, ap, subst, ◌∙◌, arith}
use Rattle.urna_outside.specs.Flash.{Flashes, flash_of}
use Rattle.urna_outside.specs.Stop.{Left}
use Rattle.urna_outside.specs.declared.device.Dev.{Dev}
use Rattle.urna_outside.specs.declared.device.Dev.TheVariants.{Internal, External}
use Rattle.election_tables.specs.Roll.{IsRoll, RollData}
use Rattle.election_tables.specs.TablesData.{IsTables, TablesData}
use Rattle.election_tables.specs.declared.tables.sections.Section.{Section}
use Rattle.twin_image.specs.Frame.{HasFrame}
use Rattle.twin_image.proofs.Laid.{device_frame, length-device_image}
use Rattle.twin_image.proofs.Renewing.{content_image}
use Rattle.image_codec.specs.Encoding.{IsStateOf, encode}
use Rattle.image_codec.specs.State.{State}
use Rattle.image_codec.specs.Layout.{body_size}
use Rattle.flash_store.specs.Held.{IsEither}
use Rattle.state_store.specs.Calls.{AreFound}
use Rattle.state_store.specs.Held.{HeldByBoth}
use Rattle.state_store.specs.Laws.{AreWhole, RestIsFound}
use Rattle.state_store.specs.Load.{IsSectionOf, header, load_of}
use Rattle.state_store.specs.Rest.{AreAtRest}
use Rattle.state_store.specs.Store.{IsLoadedWith}
use Rattle.state_store.specs.declared.load.Load.{Load}
use Rattle.state_store.proofs.Stored.{few_voters, header_long, long_state, stored}

module _ (t : TablesData) (r : RollData) (section : Section) (s : State) (flashes : Flashes) (tables : IsTables t) (roll : IsRoll r) (fits : IsSectionOf t r section)
    (of : IsStateOf t (length r.titles) s) (rest : AreAtRest t (load_of t r section) s flashes) where
  abbrev load : Load
  load = load_of t r section

  loaded : IsLoadedWith t r load
  loaded = record { tables = tables; roll = roll; section = fits; same = refl }

  of_load : IsStateOf t section.voters s
  of_load = subst (λ (n : ℕ). IsStateOf t n s) (sym fits.voters) of

  long : length (encode t s) ≡ body_size
  long = long_state t section.voters s tables (few_voters t r load loaded) of_load

  pub rest_whole : AreWhole flashes
  rest_whole d =
      ap length (rest.content d) ∙ (let whole = length-device_image body_size (header load d) (encode t s) (header_long t r load d loaded) long in omega (arith, whole))

  framed : (d : Dev) → HasFrame body_size (header load d) (flash_of d flashes).content
  framed d =
      subst (HasFrame body_size (header load d)) (sym (rest.content d)) (device_frame body_size (header load d) (encode t s) (header_long t r load d loaded) long)

  abbrev contents : Left
  contents = record { internal = flashes.internal.content; external = flashes.external.content; shown = [] }

  one_state : (held : State → Type 0) → IsEither s s held → held s
  one_state held (inl is) = is
  one_state held (inr is) = is

  -- the poll that they are at rest with
  pub rest_found : AreFound t r section s flashes
  rest_found =
      let holds = (stored t r load s loaded of_load).holds flashes contents rest (content_image flashes.internal) (content_image flashes.external) in
      record {
        loaded = record { section_fits = fits; internal_frame = framed Internal; external_frame = framed External };
        held =
            subst (λ (n : ℕ). HeldByBoth t n flashes.internal.content flashes.external.content s) fits.voters
            (one_state (HeldByBoth t section.voters flashes.internal.content flashes.external.content) holds.both);
      }

pub rest_is_found : RestIsFound
rest_is_found t r section s flashes tables roll fits of rest = (
  rest_whole t r section s flashes tables roll fits of rest,
  rest_found t r section s flashes tables roll fits of rest,
)
