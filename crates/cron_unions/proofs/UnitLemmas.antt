-- What a schedule matches whose set of one unit is narrowed by that of another schedule.
use Rattle.std.proofs.Common.{◌≡◌, ℕ, ℤ, pos, negsuc, Bool, true, false, ◌&&◌, List, refl, sym, ap, ◌∙◌}
use Rattle.std.proofs.Math.Bool.{and-true}
use Rattle.std.proofs.lemmas.Bool.{and_right}
use Rattle.jiff_core.specs.declared.civil.datetime.DateTime.{DateTime}
use Rattle.jiff_core.specs.Calendar.{days_in_month}
use Rattle.cron_moments.specs.Calendar.{weekday_number}
use Rattle.cron_units.specs.Sets.{Sets}
use Rattle.cron_units.specs.Units.{FieldSet, contains}
use Rattle.cron_time.specs.Matches.{contains_year, has_day, is_candidate, matches, matches_date, matches_day_of_month, matches_time}
use Rattle.cron_time.proofs.Searches.DayLemmas.{by_number_alone}
use Rattle.cron_unions.specs.declared.units.Unit.{Unit}
use Rattle.cron_unions.specs.declared.units.Unit.TheVariants.{Year, Month, Day, Weekday, Hour, Minute, Second}
use Rattle.cron_unions.specs.Units.{has_unit}

-- ---- a test more, wherever it stands

past : (a x b : Bool) → ((a && x) && b) ≡ ((a && b) && x)
past true true b = sym (and-true b)
past true false b = sym (and_right b false refl)
past false x b = refl

after : (a b x : Bool) → (a && (b && x)) ≡ ((a && b) && x)
after true b x = refl
after false b x = refl

in_date : (c x w t : Bool) → (((c && x) && w) && t) ≡ (((c && w) && t) && x)
in_date c x w t = ap (λ (v : Bool). v && t) (past c x w) ∙ past (c && w) x t

in_time : (d x m s : Bool) → (d && ((m && x) && s)) ≡ ((d && (m && s)) && x)
in_time d x m s = ap (λ (v : Bool). d && v) (past m x s) ∙ after d (m && s) x

-- ---- the sets

abbrev IsNarrowed : (Bool → Bool) → List ℕ → List ℕ → List ℕ → Type 0
IsNarrowed f xs ys zs = (x : ℕ) → contains zs x ≡ (contains xs x && f (contains ys x))

years_narrowed : (f : Bool → Bool) (xs ys zs : List ℕ) (z : ℤ) → IsNarrowed f xs ys zs → contains_year zs z ≡ (contains_year xs z && f (contains_year ys z))
years_narrowed f xs ys zs (pos y) narrowed = narrowed y
years_narrowed f xs ys zs (negsuc y) narrowed = refl

-- by equal views
viewed : (f : Bool → Bool) (a b s t : Sets) (m : Bool) (dt : DateTime) (u : Unit) → s ≡ a → t ≡ b → m ≡ (matches s dt && f (has_unit t dt u))
    → m ≡ (matches a dt && f (has_unit b dt u))
viewed f a b s t m dt u e g h =
    h ∙ (ap (λ (v : Sets). matches v dt && f (has_unit t dt u)) e ∙ ap (λ (v : Sets). matches a dt && f (has_unit v dt u)) g)

pub by_year : (f : Bool → Bool) (a b s t : Sets) (zs : List ℕ) → s ≡ a → t ≡ b → IsNarrowed f s.years t.years zs → (dt : DateTime)
    → matches (record s { years = zs }) dt ≡ (matches a dt && f (has_unit b dt Year))
unfolding matches
by_year f a b s t zs e g narrowed dt =
    viewed f a b s t _ dt Year e g (rw (years_narrowed f s.years t.years zs dt.date.year narrowed)
    (ap (λ (v : Bool). ((v && matches_day_of_month s dt.date) && contains s.days_of_week (weekday_number dt.date)) && matches_time s dt.time)
    (past (contains_year s.years dt.date.year) (f (contains_year t.years dt.date.year)) (contains s.months dt.date.month))
    ∙ (ap (λ (v : Bool). (v && contains s.days_of_week (weekday_number dt.date)) && matches_time s dt.time)
    (past (contains_year s.years dt.date.year && contains s.months dt.date.month) (f (contains_year t.years dt.date.year)) (matches_day_of_month s dt.date))
    ∙ in_date (is_candidate s dt.date) (f (contains_year t.years dt.date.year)) (contains s.days_of_week (weekday_number dt.date))
    (matches_time s dt.time))))

pub by_month : (f : Bool → Bool) (a b s t : Sets) (zs : List ℕ) → s ≡ a → t ≡ b → IsNarrowed f s.months t.months zs → (dt : DateTime)
    → matches (record s { months = zs }) dt ≡ (matches a dt && f (has_unit b dt Month))
unfolding matches
by_month f a b s t zs e g narrowed dt =
    viewed f a b s t _ dt Month e g (rw (narrowed dt.date.month)
    (ap (λ (v : Bool). ((v && matches_day_of_month s dt.date) && contains s.days_of_week (weekday_number dt.date)) && matches_time s dt.time)
    (after (contains_year s.years dt.date.year) (contains s.months dt.date.month) (f (contains t.months dt.date.month)))
    ∙ (ap (λ (v : Bool). (v && contains s.days_of_week (weekday_number dt.date)) && matches_time s dt.time)
    (past (contains_year s.years dt.date.year && contains s.months dt.date.month) (f (contains t.months dt.date.month)) (matches_day_of_month s dt.date))
    ∙ in_date (is_candidate s dt.date) (f (contains t.months dt.date.month)) (contains s.days_of_week (weekday_number dt.date))
    (matches_time s dt.time))))

days_narrowed : (f : Bool → Bool) (days made : FieldSet) (ys : List ℕ) (length day : ℕ) → days.last_day ≡ false → made.last_day ≡ false
    → IsNarrowed f days.ordinals ys made.ordinals → has_day made length day ≡ (has_day days length day && f (contains ys day))
days_narrowed f days made ys length day first second narrowed =
    rw (by_number_alone made length day second, by_number_alone days length day first) (narrowed day)

pub by_day : (f : Bool → Bool) (a b s t : Sets) (made : FieldSet) → s ≡ a → t ≡ b → a.days_of_month.last_day ≡ false → made.last_day ≡ false
    → IsNarrowed f s.days_of_month.ordinals t.days_of_month.ordinals made.ordinals → (dt : DateTime)
    → matches (record s { days_of_month = made }) dt ≡ (matches a dt && f (has_unit b dt Day))
unfolding matches
by_day f a b s t made e g unmarked made_unmarked narrowed dt =
    let months = contains_year s.years dt.date.year && contains s.months dt.date.month in
    let other = f (contains t.days_of_month.ordinals dt.date.day) in
    viewed f a b s t _ dt Day e g
    (ap (λ (v : Bool). ((months && v) && contains s.days_of_week (weekday_number dt.date)) && matches_time s dt.time)
    (days_narrowed f s.days_of_month made t.days_of_month.ordinals (days_in_month dt.date.year dt.date.month) dt.date.day
    (ap (λ (v : Sets). v.days_of_month.last_day) e ∙ unmarked) made_unmarked narrowed)
    ∙ (ap (λ (v : Bool). (v && contains s.days_of_week (weekday_number dt.date)) && matches_time s dt.time)
    (after months (matches_day_of_month s dt.date) other)
    ∙ in_date (is_candidate s dt.date) other (contains s.days_of_week (weekday_number dt.date)) (matches_time s dt.time)))

pub by_weekday : (f : Bool → Bool) (a b s t : Sets) (zs : List ℕ) → s ≡ a → t ≡ b → IsNarrowed f s.days_of_week t.days_of_week zs → (dt : DateTime)
    → matches (record s { days_of_week = zs }) dt ≡ (matches a dt && f (has_unit b dt Weekday))
unfolding matches
by_weekday f a b s t zs e g narrowed dt =
    let own = contains s.days_of_week (weekday_number dt.date) in
    let other = f (contains t.days_of_week (weekday_number dt.date)) in
    viewed f a b s t _ dt Weekday e g
    (ap (λ (v : Bool). (is_candidate s dt.date && v) && matches_time s dt.time) (narrowed (weekday_number dt.date))
    ∙ (ap (λ (v : Bool). v && matches_time s dt.time) (after (is_candidate s dt.date) own other)
    ∙ past (matches_date s dt.date) other (matches_time s dt.time)))

pub by_hour : (f : Bool → Bool) (a b s t : Sets) (zs : List ℕ) → s ≡ a → t ≡ b → IsNarrowed f s.hours t.hours zs → (dt : DateTime)
    → matches (record s { hours = zs }) dt ≡ (matches a dt && f (has_unit b dt Hour))
unfolding matches
by_hour f a b s t zs e g narrowed dt =
    let own = contains s.hours dt.time.hour in
    let other = f (contains t.hours dt.time.hour) in
    let minutes = contains s.minutes dt.time.minute in
    let seconds = contains s.seconds dt.time.second in
    viewed f a b s t _ dt Hour e g
    (ap (λ (v : Bool). matches_date s dt.date && ((v && minutes) && seconds)) (narrowed dt.time.hour)
    ∙ (ap (λ (v : Bool). matches_date s dt.date && (v && seconds)) (past own other minutes)
    ∙ in_time (matches_date s dt.date) other (own && minutes) seconds))

pub by_minute : (f : Bool → Bool) (a b s t : Sets) (zs : List ℕ) → s ≡ a → t ≡ b → IsNarrowed f s.minutes t.minutes zs → (dt : DateTime)
    → matches (record s { minutes = zs }) dt ≡ (matches a dt && f (has_unit b dt Minute))
unfolding matches
by_minute f a b s t zs e g narrowed dt =
    let own = contains s.minutes dt.time.minute in
    let other = f (contains t.minutes dt.time.minute) in
    let hours = contains s.hours dt.time.hour in
    let seconds = contains s.seconds dt.time.second in
    viewed f a b s t _ dt Minute e g
    (ap (λ (v : Bool). matches_date s dt.date && ((hours && v) && seconds)) (narrowed dt.time.minute)
    ∙ (ap (λ (v : Bool). matches_date s dt.date && (v && seconds)) (after hours own other)
    ∙ in_time (matches_date s dt.date) other (hours && own) seconds))

pub by_second : (f : Bool → Bool) (a b s t : Sets) (zs : List ℕ) → s ≡ a → t ≡ b → IsNarrowed f s.seconds t.seconds zs → (dt : DateTime)
    → matches (record s { seconds = zs }) dt ≡ (matches a dt && f (has_unit b dt Second))
unfolding matches
by_second f a b s t zs e g narrowed dt =
    let own = contains s.seconds dt.time.second in
    let other = f (contains t.seconds dt.time.second) in
    let before = contains s.hours dt.time.hour && contains s.minutes dt.time.minute in
    viewed f a b s t _ dt Second e g
    (ap (λ (v : Bool). matches_date s dt.date && (before && v)) (narrowed dt.time.second)
    ∙ (ap (λ (v : Bool). matches_date s dt.date && v) (after before own other) ∙ after (matches_date s dt.date) (before && own) other))
