use Rattle.std.proofs.Common.{◌∙◌, Err, ap, refl}
use Rattle.cron_c.proofs.RulesAlike.{none_said}
use Rattle.cron_c.proofs.ZoneFileLemmas.{no_file, no_memory, reads}
use Rattle.cron_c.proofs.zone_file.read_history.Goals as goal

pub returns-in-Ok : goal.returns-in-Ok
returns-in-Ok c =
    reads c.args.bytes.now c.in-Ok.table c.args.eras.now c.write_eras.new.eras c.write_eras.new.count c.write_eras.result
    (c.in-Ok.ensures.value, c.in-Ok.ensures.agrees, c.tell_saving.ensures.0 c.if-not-tell_saving.false) c.write_eras.ensures

pub returns-in_default : goal.returns-in_default
returns-in_default c =
    let none = no_file c.args.bytes.now c.in-Err.error c.in-Err.ensures.err c.in_default.not-OutOfMemory in
    (λ t file. absurd (none_said c.args.bytes.now none t file), refl, refl)

pub returns-in-OutOfMemory : goal.returns-in-OutOfMemory
returns-in-OutOfMemory c =
    let good = no_memory c.args.bytes.now c.parse.result c.parse.ensures.refused (c.in-Err.is ∙ ap Err c.in-OutOfMemory.is) in
    (good.0, good.1, c.tell_saving.ensures.0 c.if-not-tell_saving.false, refl, refl)

pub returns-then-not-tell_saving : goal.returns-then-not-tell_saving
returns-then-not-tell_saving c = (λ t file. let told = c.tell_saving.ensures.1 file.2 in absurd (cc), refl, refl)
