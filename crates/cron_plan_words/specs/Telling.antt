-- Lines that tell of a plan.
use Rattle.std.specs.Prelude.{◌++◌, ℕ, Bool, true, false, List, [], Option, Some, None, codes}
use Rattle.std.specs.Borrow.{Bor}
use Rattle.std.specs.Fmt.{decimal}
use Rattle.jiff_core.specs.declared.civil.date.Date.{Date}
use Rattle.jiff.specs.Words.{date_text}
use Rattle.cron_units.specs.declared.way.Way.{Way}
use Rattle.cron_units.specs.declared.way.Way.TheVariants.{Ahead, Back}
use Rattle.cron_days.specs.declared.period.Period.{Period}
use Rattle.cron_days.specs.declared.period.Period.TheVariants.{Day, Week, Month}
use Rattle.cron_replies.specs.declared.form.Form.{Form}
use Rattle.cron_replies.specs.declared.form.Form.TheVariants.{Text, Json}
use Rattle.cron_plan_words.specs.declared.options.Options.{Options}
use Rattle.cron_plan_words.specs.declared.options.Step.{Step}

-- a rule as a line, or as an object of JSON
abbrev pub rule_line : Form → List ℕ → List ℕ
rule_line Text text = codes "rule: " ++ (text ++ codes "\n")
rule_line Json text = codes "{\"rule\":\"" ++ (text ++ codes "\"}\n")

-- `one week in 2, that of 2026-01-05 among them`
abbrev pub step_in : Period → ℕ → Date → List ℕ
step_in Day count anchor = codes "one day in " ++ (decimal count ++ (codes ", " ++ (date_text anchor ++ codes " among them")))
step_in Week count anchor = codes "one week in " ++ (decimal count ++ (codes ", that of " ++ (date_text anchor ++ codes " among them")))
step_in Month count anchor = codes "one month in " ++ (decimal count ++ (codes ", that of " ++ (date_text anchor ++ codes " among them")))

abbrev pub step_text : Step → List ℕ
step_text s = step_in s.period s.count s.anchor

abbrev pub step_line : Form → Option Step → List ℕ
step_line form None = []
step_line form (Some s) = rule_line form (step_text s)

abbrev pub first_line : Form → Option Date → List ℕ
first_line form None = []
first_line form (Some first) = rule_line form (codes "from " ++ (date_text first ++ codes " on"))

abbrev pub last_line : Form → Option Date → List ℕ
last_line form None = []
last_line form (Some last) = rule_line form (codes "up to " ++ (date_text last ++ codes " inclusive"))

abbrev pub dates_line : Form → Option (Bor (List Date)) → List ℕ
dates_line form None = []
dates_line form (Some dates) = rule_line form (codes "not on the dates of --holidays")

abbrev pub except_line : Form → Bool → List ℕ
except_line form false = []
except_line form true = rule_line form (codes "not when the expression of --except matches")

abbrev pub move_line : Form → Option Way → List ℕ
move_line form None = []
move_line form (Some Ahead) = rule_line form (codes "a fire on another day moves to the next allowed day")
move_line form (Some Back) = rule_line form (codes "a fire on another day moves to the last allowed day before")

-- a line for each rule that the options ask for
abbrev pub plan_lines : Form → Options → List ℕ
plan_lines form o =
    ((((except_line form o.except ++ step_line form o.every) ++ first_line form o.first) ++ last_line form o.last) ++ dates_line form o.holidays) ++ move_line form o.moves
