use Rattle.std.proofs.Common.{◌≡◌, take, true}
use Rattle.std.specs.List.{list_all}
use Rattle.cron_units.specs.Keys.{IsKey, is_letter}
use Rattle.cron_units.proofs.time_unit.names.key_of.Given as goal

abbrev pub invariant-loop-letter : goal.invariant-loop-letter
invariant-loop-letter l = record {
  letters : list_all is_letter (take l.letter-index l.name) ≡ true;
  key : IsKey (take l.letter-index l.name) l.key;
}
