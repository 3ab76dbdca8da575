-- The expression and the zone that the words of a subcommand name.
use Rattle.std.specs.Prelude.{◌≡◌, ℕ, Bool, List, Result, Ok, Err}
use Rattle.std.specs.declared.alloc.Global.{Global}
use Rattle.std.specs.declared.io.Error.{Error}
use Rattle.std.specs.declared.vec.Vec.{Vec}
use Rattle.jiff_tz.specs.declared.timezone.TimeZone.{TimeZone}
use Rattle.cron_zones.specs.Opening.{Opens}
use Rattle.cron_zones.specs.Zones.{IsTimeZone}
use Rattle.cron_zones.specs.declared.open.Places.{Places}
use Rattle.cron_zones.specs.declared.zone.Zone.{Zone}
use Rattle.cron_answers.specs.Answers.{Given}
use Rattle.cron_answers.specs.Expressions.{IsReadAs, IsRefusedAs}
use Rattle.cron_answers.specs.Troubles.{zone_word}
use Rattle.cron_answers.specs.Wholes.{IsReadWhole, IsRefusedWhole}
use Rattle.cron_answers.specs.declared.expression.Expression.{Expression}
use Rattle.cron_answers.specs.declared.trouble.Trouble.{Trouble}
use Rattle.cron_answers.specs.declared.trouble.Trouble.TheVariants as trouble

-- The text is the expression, and the name was opened as the zone.
abbrev pub IsSubject :
    {F : Type 0} → (F → List ℕ → Result (Vec ℕ Global) Error → F → Type 0) → Places → Bool → List ℕ → List ℕ → F → Expression → Zone → F → Type 0
IsSubject reads places quartz text name old expression zone new = IsReadAs quartz text expression × Opens reads name places old (Ok zone) new

-- Why a subcommand has no expression and zone: the first of the two that can't be had.
abbrev pub IsNoSubject :
    {F : Type 0} → (F → List ℕ → Result (Vec ℕ Global) Error → F → Type 0) → Places → Bool → List ℕ → List ℕ → F → Trouble → F → Type 0
IsNoSubject reads places quartz text name old (trouble.Expression word refusal) new = (word.now ≡ text) × IsRefusedAs quartz text refusal × (new ≡ old)
IsNoSubject reads places quartz text name old (trouble.Zone word error) new =
    (word.now ≡ zone_word places.tz name) × ((e : Expression) × IsReadAs quartz text e) × Opens reads name places old (Err error) new
IsNoSubject reads places quartz text name old (trouble.Instant word) new = ⊥
IsNoSubject reads places quartz text name old (trouble.Whole word) new = ⊥
IsNoSubject reads places quartz text name old (trouble.Order start end) new = ⊥
IsNoSubject reads places quartz text name old (trouble.Format word) new = ⊥
IsNoSubject reads places quartz text name old trouble.NoMemory new = ⊥

-- The text is the expression, or a line of a user's crontab with it, and the name was opened as the
-- zone.
abbrev pub IsWhole :
    {F : Type 0} → (F → List ℕ → Result (Vec ℕ Global) Error → F → Type 0) → Places → Bool → List ℕ → List ℕ → F → Expression → Zone → F → Type 0
IsWhole reads places quartz text name old expression zone new = IsReadWhole quartz text expression × Opens reads name places old (Ok zone) new

-- Why there is no expression, in a line neither, or no zone.
abbrev pub IsNoWhole :
    {F : Type 0} → (F → List ℕ → Result (Vec ℕ Global) Error → F → Type 0) → Places → Bool → List ℕ → List ℕ → F → Trouble → F → Type 0
IsNoWhole reads places quartz text name old (trouble.Expression word refusal) new = (word.now ≡ text) × IsRefusedWhole quartz text refusal × (new ≡ old)
IsNoWhole reads places quartz text name old (trouble.Zone word error) new =
    (word.now ≡ zone_word places.tz name) × ((e : Expression) × IsReadWhole quartz text e) × Opens reads name places old (Err error) new
IsNoWhole reads places quartz text name old (trouble.Instant word) new = ⊥
IsNoWhole reads places quartz text name old (trouble.Whole word) new = ⊥
IsNoWhole reads places quartz text name old (trouble.Order start end) new = ⊥
IsNoWhole reads places quartz text name old (trouble.Format word) new = ⊥
IsNoWhole reads places quartz text name old trouble.NoMemory new = ⊥

-- The expression was read, and the zone opened as z.
pub record IsBegun {F : Type 0} (g : Given F) (quartz : Bool) (text name : List ℕ) (old : F) (expression : Expression) (z : TimeZone) (new : F) : Type 0 where
  pub zone : Zone
  pub subject : IsSubject g.reads g.places quartz text name old expression zone new
  pub is_time_zone : IsTimeZone zone z
