-- What the text of a section's record says (`vote_record`, specs/RecordText.antt).
use Rattle.std.specs.Prelude.{List, map}
use Rattle.std.specs.List.{zip}
use Rattle.election_tables.specs.TablesData.{TablesData}
use Rattle.election_tables.specs.declared.tables.panels.Panel.{Panel}
use Rattle.election_tables.specs.declared.tables.sections.Section.{Section}
use Rattle.vote_kinds.specs.declared.choice.Choice.{Choice}
use Rattle.record_audit.specs.declared.text.RecordOffice.{RecordOffice}
use Rattle.record_audit.specs.declared.text.RecordText.{RecordText}

-- a panel's office and its bag
abbrev pub panel_record : Panel × List Choice → RecordOffice
panel_record (panel, bag) = record { code = panel.office.code; votes = bag }

-- the election, the section, and each panel of the tables with its bag
abbrev pub section_record : TablesData → Section → List (List Choice) → RecordText
section_record t s bags = record {
  process = t.process;
  date = t.date;
  turn = t.turn;
  zone = s.zone;
  section = s.number;
  offices = map panel_record (zip t.panels bags);
}
