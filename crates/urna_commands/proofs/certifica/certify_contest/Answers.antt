use Rattle.urna_commands.proofs.certifica.certify_contest.Goals as goal

pub returns-clause-ok : goal.returns-clause-ok
returns-clause-ok c =
    let (certificate, valid, spelled) = c.in_ok-text.ensures.ok in
    let (seats, come, told) = c.in_ok-lines.ensures.ok in
    record { certificate = certificate; valid = valid; spelled = spelled; seats = seats; come = come; told = told }
