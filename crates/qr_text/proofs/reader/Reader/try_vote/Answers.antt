use Rattle.std.proofs.Common.{Some, None, refl, sym, ◌∙◌, ap}
use Rattle.qr_text.proofs.VoteLaws.{first_end, first_field, vote_few}
use Rattle.qr_text.proofs.reader.Reader.try_vote.Goals as goal
use Rattle.qr_text.specs.Sections.{FieldsLeft}
use Rattle.urna_base.specs.Words.{pieces_left}
use Rattle.qr_text.specs.Votes.{vote_after, vote_first}

pub returns-in_default-clause-exact : goal.returns-in_default-clause-exact
unfolding vote_first
returns-in_default-clause-exact c =
    let s : FieldsLeft = record { left = pieces_left c.self.inside.rest; next = c.self.inside.next } in
    (ap (λ (x : FieldsLeft). vote_first c.args.digits c.args.party c.args.last x) (sym c.self.view_is) ∙ first_end (vote_after c.args.digits c.args.party c.args.last) s.next s.left (ap pieces_left c.in_default.is), refl)

pub returns-in-None-clause-exact : goal.returns-in-None-clause-exact
unfolding vote_first
returns-in-None-clause-exact c =
    let s : FieldsLeft = record { left = pieces_left c.self.inside.rest; next = c.self.inside.next } in (
      ap (λ (x : FieldsLeft). vote_first c.args.digits c.args.party c.args.last x) (sym c.self.view_is)
          ∙ first_field (vote_after c.args.digits c.args.party c.args.last) s.next s.left c.split_piece.result.0.now (pieces_left c.split_piece.result.1) None
          (ap pieces_left c.in-Some.is ∙ c.split_piece.ensures) (sym c.vote_after.ensures ∙ c.in-None.is),
      refl,
    )

pub returns-in-Some-vote_after-clause-exact : goal.returns-in-Some-vote_after-clause-exact
unfolding vote_first
returns-in-Some-vote_after-clause-exact c =
    let s : FieldsLeft = record { left = pieces_left c.self.inside.rest; next = c.self.inside.next } in
    ap (λ (x : FieldsLeft). vote_first c.args.digits c.args.party c.args.last x) (sym c.self.view_is)
    ∙ first_field (vote_after c.args.digits c.args.party c.args.last) s.next s.left c.split_piece.result.0.now (pieces_left c.split_piece.result.1) (Some c.in-Some-vote_after.count)
    (ap pieces_left c.in-Some.is ∙ c.split_piece.ensures) (sym c.vote_after.ensures ∙ c.in-Some-vote_after.is)

pub returns-in-Some-vote_after-clause-few : goal.returns-in-Some-vote_after-clause-few
returns-in-Some-vote_after-clause-few c =
    vote_few c.args.digits c.args.party c.args.last c.split_piece.result.0.now c.in-Some-vote_after.count (sym c.vote_after.ensures ∙ c.in-Some-vote_after.is)
