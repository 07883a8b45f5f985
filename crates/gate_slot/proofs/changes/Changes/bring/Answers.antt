use Rattle.std.proofs.Common.{◌≡◌, ℕ, ◌+◌, ◌*◌, ◌≤◌, get_or, length, sym, ap, ◌∙◌, arith}
use Rattle.std.proofs.lemmas.List.{ext_get_or}
use Rattle.urna_outside.specs.Flash.{clean_flash, overwrite, put}
use Rattle.urna_outside.specs.declared.device.Dev.TheVariants.{Internal}
use Rattle.urna_outside.proofs.Places.{length-overwrite, length-part}
use Rattle.gate_slot.specs.Page.{page, page_size}
use Rattle.gate_slot.proofs.Paging.{all_pages, same_page, whole_pages}
use Rattle.gate_slot.proofs.Patched.{page_kept, page_put, same_content}
use Rattle.gate_slot.proofs.changes.Changes.bring.Goals as goal
use Rattle.gate_slot.proofs.changes.Changes.bring.Goals.{then-page-ge-MARKED_PAGES, else-page-ge-MARKED_PAGES+else-self-page}

pub loop-page-init : goal.loop-page-init
loop-page-init c = record {
  long = c.requires.same_length;
  paged = record {
    fits = omega (arith, c.requires.same_length);
    done = λ i below. absurd (omega (arith, below));
    ahead = λ i over low. let here : 0 + i ≡ i = omega arith in ap (λ (n : ℕ). get_or c.args.body.now n 0) here;
  };
}

pub loop-page-preserved : goal.loop-page-preserved
loop-page-preserved c =
    let old = c.args.body.now in
    let new = c.args.new.now in
    let k = c.loop-page.page in
    let body = c.loop-page.body in
    let fits = whole_pages (length new) k c.requires.pages c.loop-page-test.true in
    let within : (k + 1) * page_size ≤ length new = omega (arith, fits) in
    elim c.if-page-ge-MARKED_PAGES.branch [
      | then-page-ge-MARKED_PAGES w ↦
          let at = k * page_size in
          let here : at ≡ 0 + at = omega arith in
          let is : c.if-page-ge-MARKED_PAGES.body ≡ overwrite body (0 + at) (page k new) =
          w.body-is ∙ w.overwrite.ensures ∙ ap (λ (n : ℕ). overwrite body n (page k new)) here in
          let long = length-part new at page_size fits in
          record {
            long = ap length is ∙ (length-overwrite body (0 + at) (page k new) (omega (arith, long, fits, c.loop-page.invariant.long)) ∙ c.loop-page.invariant.long);
            paged =
                same_content old new Internal 0 (k + 1) (put (0 + at) (page k new) (clean_flash body)) (clean_flash c.if-page-ge-MARKED_PAGES.body) (sym is)
                (page_put old new Internal 0 k (clean_flash body) within c.loop-page.invariant.paged);
          }
      | else-page-ge-MARKED_PAGES+else-self-page w ↦
          let same = same_page old new k (sym (c.requires.changes k (omega (arith, w.if-page-ge-MARKED_PAGES.false)) c.loop-page-test.true) ∙ w.if-self-page.false) in
          record {
            long = ap length w.body-is ∙ c.loop-page.invariant.long;
            paged = same_content old new Internal 0 (k + 1) (clean_flash body) (clean_flash c.if-page-ge-MARKED_PAGES.body) (sym w.body-is) (page_kept old new Internal 0 k (clean_flash body) within same c.loop-page.invariant.paged);
          }
    ]

pub returns : goal.returns
returns c =
    let new = c.args.new.now in
    let all = all_pages (length new) c.requires.pages in
    ext_get_or 0 c.loop-page.body new c.loop-page.invariant.long
    (λ i below. let here : i ≡ 0 + i = omega arith in ap (λ (n : ℕ). get_or c.loop-page.body n 0) here ∙ c.loop-page.invariant.paged.done i (omega (arith, all, c.loop-page-test.false, below, c.loop-page.invariant.long)))
