-- Tasks that are added one after another.
use Rattle.std.proofs.Common.{◌≡◌, ◌++◌, ℕ, Bool, true, false, cond, int_lt, List, [], ◌∷◌, Option, refl, ap, ◌∙◌, subst}
use Rattle.jiff_core.specs.declared.Timestamp.{Timestamp}
use Rattle.cron_tab_running.specs.Noted.{later}
use Rattle.cron_tab_running.specs.Running.{later_of}
use Rattle.cron_tab_lines.specs.Files.{FileLine}
use Rattle.cron_tab_lines.specs.Zones.{zone_below}
use Rattle.cron_tab_tasks.specs.Tasks.{Orders, Task, task_in, tasks_below, text_in, variables_in}
use Rattle.cron_tab_running.specs.Loading.{AddsTasks, Given, State}

later-by : (b : Bool) (a c : Timestamp) → (cond b c a).nanosecond ≡ cond b c.nanosecond a.nanosecond
later-by true a c = refl
later-by false a c = refl

-- the later of two instants, in nanoseconds
pub later_ns : (a b t : Timestamp) → t ≡ later a b → t.nanosecond ≡ later_of a.nanosecond b.nanosecond
later_ns a b t is = ap (λ (v : Timestamp). v.nanosecond) is ∙ later-by (int_lt a.nanosecond b.nanosecond) a b

pub adds-append : (g : Given) (xs ys : List Task) (a b c : State) → AddsTasks g xs a b → AddsTasks g ys b c → AddsTasks g (xs ++ ys) a c
adds-append g [] ys a b c one more = subst (λ s. AddsTasks g ys s c) one more
adds-append g (x ∷ xs) ys a b c one more = (one.0, one.1, adds-append g xs ys one.0 b c one.2 more)

-- a line, and those below it
pub more-lines : (g : Given) (o : Orders) (here : Option ℕ) (vs vs' : List (List ℕ × List ℕ)) (line : FileLine) (lines : List FileLine) (a b after : State)
    → vs' ≡ vs ++ variables_in line.outcome → AddsTasks g (task_in line here (text_in o vs' line)) a b
    → AddsTasks g (tasks_below o (zone_below o.names here line.outcome) vs' lines) b after → AddsTasks g (tasks_below o here vs (line ∷ lines)) a after
more-lines g o here vs vs' line lines a b after is one more =
    subst (λ v. AddsTasks g (task_in line here (text_in o v line) ++ tasks_below o (zone_below o.names here line.outcome) v lines) a after) is
    (adds-append g (task_in line here (text_in o vs' line)) (tasks_below o (zone_below o.names here line.outcome) vs' lines) a b after one more)
