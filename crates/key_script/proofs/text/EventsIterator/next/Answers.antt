use Rattle.std.proofs.Common.{refl, IsSome}
use Rattle.std.specs.Option.{option_map}
use Rattle.key_script.specs.Script.{events_of, clerk_line}
use Rattle.key_script.specs.declared.keys.Event.TheVariants.{Clerk}
use Rattle.key_script.proofs.Presses.{left_of, PressesKey, PressesLine, Presses-yields, Presses-progress, left_of-nil, key_presses, clerk_presses, voter_presses}
use Rattle.key_script.proofs.text.EventsIterator.next.Goals as goal

-- a key of the present line
next_key : (c : goal.After-key_event) → PressesKey c.in-Some.first.now c.in-Some.others.now (left_of c.self.inside.keys.now c.self.inside.text.now) (left_of c.in-Some.others.now c.self.inside.text.now)
next_key c = key_presses c.self.inside.keys.now c.in-Some.first.now c.in-Some.others.now c.self.inside.text.now c.in-Some.ensures.cases.0 c.self.invariant.0

-- the key of a clerk's line
next_clerk : (c : goal.After-clerk_event) → PressesLine c.in_ok-line.line.now c.in_ok-line.rest.now (option_map (λ key. Clerk key) (clerk_line c.in_ok-line.line.now)) (left_of c.self.inside.keys.now c.self.inside.text.now) (left_of c.self.inside.keys.now c.in_ok-line.rest.now)
next_clerk c =
    clerk_presses c.self.inside.keys.now c.self.inside.text.now c.in_ok-line.line.now c.in_ok-line.rest.now
    c.in_default.ensures.cases c.in_ok-line.ensures.split c.self.invariant.1 c.in_default-voter_keys.ensures.value

-- the first key of a voter's line
next_voter : (c : goal.After-key_event-2) → IsSome (events_of c.in_ok-line.rest.now) × PressesKey c.in_ok-first.first.now c.in_ok-first.others.now (left_of c.self.inside.keys.now c.self.inside.text.now) (left_of c.in_ok-first.others.now c.in_ok-line.rest.now)
next_voter c =
    voter_presses c.self.inside.keys.now c.self.inside.text.now c.in_ok-line.line.now c.in_ok-line.rest.now
    c.in-Some-voter_keys.keys.now c.in_ok-first.first.now c.in_ok-first.others.now
    c.in_default.ensures.cases c.in_ok-line.ensures.split c.self.invariant.1
    c.in-Some-voter_keys.ensures.value c.in-Some-voter_keys.ensures.valid c.in_ok-first.ensures.cases.0

pub invariant_of-self : goal.invariant_of-self
invariant_of-self c = ((next_key c).rest, c.self.invariant.1)

pub returns-in-Some-clause-steps : goal.returns-in-Some-clause-steps
returns-in-Some-clause-steps c = rw (← c.self.view_is, c.key_event.ensures) (Presses-yields _ _ _ (next_key c).press)

pub returns-in-Some-clause-goes : goal.returns-in-Some-clause-goes
returns-in-Some-clause-goes c =
    rw (← c.self.view_is, c.key_event.ensures) (Presses-progress _ _ _ _ tt (next_key c).press)

pub returns-in_err-line-clause-steps : goal.returns-in_err-line-clause-steps
returns-in_err-line-clause-steps c =
    let ended = c.in_err-line.ensures.empty.0 refl in
    let none = left_of-nil c.self.inside.keys.now c.self.inside.text.now c.in_default.ensures.cases ended in
    rw (← c.self.view_is, c.from_residual.ensures) (none, none)

pub invariant_of-self-in_default-voter_keys : goal.invariant_of-self-in_default-voter_keys
invariant_of-self-in_default-voter_keys c = (c.self.invariant.0, (next_clerk c).rest)

pub returns-in_default-voter_keys-clause-steps : goal.returns-in_default-voter_keys-clause-steps
returns-in_default-voter_keys-clause-steps c =
    rw (← c.self.view_is, c.clerk_event.ensures) (Presses-yields _ _ _ (next_clerk c).press)

pub returns-in_default-voter_keys-clause-goes : goal.returns-in_default-voter_keys-clause-goes
returns-in_default-voter_keys-clause-goes c =
    rw (← c.self.view_is, c.clerk_event.ensures) (Presses-progress _ _ _ _ tt (next_clerk c).press)

pub invariant_of-self-2 : goal.invariant_of-self-2
invariant_of-self-2 c = ((next_voter c).1.rest, (next_voter c).0)

pub returns-clause-steps : goal.returns-clause-steps
returns-clause-steps c = rw (← c.self.view_is, c.key_event-2.ensures) (Presses-yields _ _ _ (next_voter c).1.press)

pub returns-clause-goes : goal.returns-clause-goes
returns-clause-goes c =
    rw (← c.self.view_is, c.key_event-2.ensures) (Presses-progress _ _ _ _ tt (next_voter c).1.press)
