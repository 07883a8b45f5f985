use Rattle.std.proofs.Common.{◌≡◌, ℕ, Bool, true, List, Some, length, map, option_map, slice_get, refl, sym, ap, ◌∙◌, inl, inr, arith}
use Rattle.std.specs.Str.{bytes_eq}
use Rattle.std.specs.Cmp.Lexicographic.{other_text, same_text}
use Rattle.std.proofs.lemmas.Bool.{cases_Bool}
use Rattle.std.proofs.lemmas.List.{length-map}
use Rattle.std.proofs.lemmas.Option.{slice_get-map, slice_get_read}
use Rattle.section_intake.proofs.files.Files.is_at.Goals as goal

-- a test of the bytes of a file tells whether it is the one that stands there
told : (files : List (List ℕ)) (place : ℕ) (kept bytes : List ℕ) (b : Bool) → slice_get files place ≡ Some kept → b ≡ bytes_eq kept bytes
    → (b ≡ true → slice_get files place ≡ Some bytes) × (slice_get files place ≡ Some bytes → b ≡ true)
told files place kept bytes b at is = (
  (λ tested. at ∙ ap (λ (f : List ℕ). Some f) (same_text kept bytes (sym tested ∙ is))),
  (λ same. elim (cases_Bool b) [
    | inl tested ↦ tested
    | inr no_one ↦ absurd (other_text kept bytes (sym no_one ∙ is) (let both : Some kept ≡ Some bytes = sym at ∙ same in cc))
  ]),
)

pub returns : goal.returns
returns c =
    let files = c.self.inside.items.items in
    let many : length (map (λ file. file.items) files) ≡ length files = length-map files (λ file. file.items) in
    let seen : length (map (λ file. file.items) files) ≡ length c.args.self.now = ap length c.self.view_is in
    let lt = c.requires in
    let found = slice_get_read files (length files) c.args.place c.index.result.now refl (omega arith) c.index.ensures in
    let at : slice_get (map (λ file. file.items) files) c.args.place ≡ Some c.index.result.now.items =
    slice_get-map (λ file. file.items) files c.args.place ∙ ap (option_map (λ file. file.items)) found in
    let there : slice_get c.args.self.now c.args.place ≡ Some c.index.result.now.items = ap (λ (l : List (List ℕ)). slice_get l c.args.place) (sym c.self.view_is) ∙ at in
    told c.args.self.now c.args.place c.index.result.now.items c.args.bytes.now c.eq.result there
    (c.eq.ensures ∙ ap (λ (l : List ℕ). bytes_eq l c.args.bytes.now) c.as_slice.ensures.value)
