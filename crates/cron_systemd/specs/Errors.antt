-- The messages of errors.
use Rattle.std.specs.Prelude.{ℕ, List, codes}
use Rattle.cron_systemd.specs.declared.error.UnitError.{UnitError}
use Rattle.cron_systemd.specs.declared.error.UnitError.TheVariants.{Calendar, Input, Long, OutOfMemory, Shell, User, Variable}

abbrev pub error_text : UnitError → List ℕ
error_text User = codes "systemd takes no such user: a name has letters, digits, - and _"
error_text Variable = codes "systemd takes no such variable as a line above sets, by its name or its value"
error_text Shell = codes "systemd takes no such SHELL: it is a path of letters, digits and +-./_"
error_text Input = codes "systemd takes no NUL"
error_text Calendar = codes "systemd takes no such line of OnCalendar"
error_text Long = codes "systemd takes no line of 1 MiB or more"
error_text OutOfMemory = codes "out of memory"
