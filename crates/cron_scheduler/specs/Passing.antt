-- A clock that is waited for and read, and a job that is run for what is due, fire by fire.
use Rattle.std.specs.Prelude.{◌≡◌, ◌++◌, ◌-◌, ℤ, ℕ, Bool, true, false, Option, List, [], ◌∷◌, Result, Ok, Err, ⊤, MatchOption}
use Rattle.std.specs.Option.{option_map}
use Rattle.jiff.specs.Words.{plain_zone}
use Rattle.jiff_tz.specs.declared.timezone.TimeZone.{TimeZone}
use Rattle.cron_time.specs.Seconds.{Seconds}
use Rattle.cron_seconds.specs.Rules.{IsFirstOf, is_by}
use Rattle.cron_scheduler.specs.declared.plan.Plan.{Plan}
use Rattle.cron_scheduler.specs.declared.plan.Rest.{Rest}
use Rattle.cron_scheduler.specs.declared.plan.Start.{Start}
use Rattle.cron_scheduler.specs.declared.plan.Start.TheVariants.{Past}
use Rattle.cron_scheduler.specs.Plans.{planned}

-- the fires of a plan after r, the first of them
abbrev pub planned_past : {A : Type 0} → (Seconds → TimeZone → ℤ → List A) → (Seconds → TimeZone → A → List A) → Seconds → TimeZone → A → Option ℕ → List A
planned_past after past s z r most = planned after past s z (Past r) (option_map (λ n. n - 1) most)

-- each of the fires passes the test
abbrev pub AllPass : {A : Type 0} → (A → Bool) → List A → Type 0
AllPass p [] = Unit {0}
AllPass p (r ∷ l) = (p r ≡ true) × AllPass p l

-- none of the fires passes the test
abbrev pub NonePass : {A : Type 0} → (A → Bool) → List A → Type 0
NonePass p [] = Unit {0}
NonePass p (r ∷ l) = (p r ≡ false) × NonePass p l

-- the first of a plan's fires; `None` exactly if it has none
abbrev pub IsFirst : {A : Type 0} → (Seconds → TimeZone → ℤ → List A) → (Seconds → TimeZone → A → List A) → Seconds → TimeZone → Start A → Option ℕ
    → Option A → Type 0
IsFirst after past s z start most = IsFirstOf (planned after past s z start most) (λ r. planned_past after past s z r most)

-- the first of a plan's fires, if it is due by an instant; `None` exactly if no fire of the plan is
abbrev pub IsFirstDue : {A : Type 0} → (A → ℤ) → (Seconds → TimeZone → ℤ → List A) → (Seconds → TimeZone → A → List A) → Seconds → TimeZone → Start A
    → Option ℕ → ℤ → Option A → Type 0
IsFirstDue instant after past s z start most now answer =
    MatchOption answer (NonePass (is_by instant now) (planned after past s z start most))
    (λ r. (planned after past s z start most ≡ r ∷ planned_past after past s z r most) × (is_by instant now r ≡ true))

-- what is left of the fires of a plan
abbrev pub left_of : {T A : Type 0} → (T → Seconds) → (Seconds → TimeZone → ℤ → List A) → (Seconds → TimeZone → A → List A) → Plan T A → Rest A → List A
left_of has after past p rest = planned after past (has p.table.now) (plain_zone p.zone.now) rest.start rest.most

-- the first of the fires that are left of a plan; `None` exactly if none is left
abbrev pub IsFirstLeft : {T A : Type 0} → (T → Seconds) → (Seconds → TimeZone → ℤ → List A) → (Seconds → TimeZone → A → List A) → Plan T A → Rest A
    → Option A → Type 0
IsFirstLeft has after past p rest answer = IsFirst after past (has p.table.now) (plain_zone p.zone.now) rest.start rest.most answer

-- the first of the fires that are left, if it is due by an instant; `None` exactly if none is due
abbrev pub IsFirstDueLeft : {T A : Type 0} → (A → ℤ) → (T → Seconds) → (Seconds → TimeZone → ℤ → List A) → (Seconds → TimeZone → A → List A)
    → Plan T A → Rest A → ℤ → Option A → Type 0
IsFirstDueLeft instant has after past p rest now answer =
    IsFirstDue instant after past (has p.table.now) (plain_zone p.zone.now) rest.start rest.most now answer

-- the job was run for these fires, one after another, and did well each time
abbrev pub RanFor : {A J F : Type 0} → (J → A → Result ⊤ F → J → Type 0) → List A → J → J → Type 0
RanFor runs [] j j' = j' ≡ j
RanFor {A} {J} runs (r ∷ rs) j j' = (next : J) × runs j r (Ok tt) next × RanFor runs rs next j'

-- Of some fires those that are due by an instant were run, and the others are left. Or the job
-- failed for one of them, and it and all after it are left. So it goes from the fires and the job
-- to what is left of both.
abbrev pub RunsDue : {A J F : Type 0} → (A → ℤ) → (J → A → Result ⊤ F → J → Type 0) → ℤ → List A × J → Result ⊤ F → List A × J → Type 0
RunsDue {A} instant runs now (fires, j) (Ok done) (left, j') =
    (rs : List A) × RanFor runs rs j j' × (fires ≡ rs ++ left) × AllPass (is_by instant now) rs × NonePass (is_by instant now) left
RunsDue {A} {J} instant runs now (fires, j) (Err f) (left, j') =
    (rs : List A) × (mid : J) × (r : A) × (rest : List A)
    × RanFor runs rs j mid × runs mid r (Err f) j' × (fires ≡ rs ++ left) × (left ≡ r ∷ rest) × AllPass (is_by instant now) rs × (is_by instant now r ≡ true)
