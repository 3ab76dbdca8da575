-- What a fault of a list prints.
use Rattle.std.specs.Prelude.{ℕ, List, codes}
use Rattle.cron_agenda.specs.Messages.{zone_missing_text}
use Rattle.cron_tab_answers.specs.declared.fault.ListFault.{ListFault}
use Rattle.cron_tab_answers.specs.declared.fault.ListFault.TheVariants.{Zone, Source, Format, OutOfMemory}

abbrev pub fault_text : ListFault → List ℕ
fault_text (Zone missing) = zone_missing_text
fault_text Source = codes "the source of the entry that comes first is lacking"
fault_text Format = codes "strftime refuses the format of times"
fault_text OutOfMemory = codes "out of memory"
