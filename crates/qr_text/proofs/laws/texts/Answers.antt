use Rattle.qr_text.proofs.Lengths.{short_by_votes, text_is_short}
use Rattle.qr_text.proofs.Plain.{fields_are_plain}
use Rattle.qr_text.proofs.Spellings.{text_has_fields}
use Rattle.qr_text.proofs.laws.texts.Goals as goal

pub returns-clause-fields : goal.returns-clause-fields
returns-clause-fields c = text_has_fields

pub returns-clause-plain : goal.returns-clause-plain
returns-clause-plain c = fields_are_plain

pub returns-clause-by_votes : goal.returns-clause-by_votes
returns-clause-by_votes c = short_by_votes

pub returns-clause-short : goal.returns-clause-short
returns-clause-short c = text_is_short
