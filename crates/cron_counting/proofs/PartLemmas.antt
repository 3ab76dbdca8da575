-- The times of a day are those of its civil seconds.
use Rattle.std.proofs.Common.{◌≡◌, ℕ, ◌+◌, ◌*◌, ◌/◌, ◌%◌, ◌<◌, ◌≤◌, Bool, true, false, ◌&&◌, ◌||◌, cond, List, [], ◌∷◌, length, inl, inr, refl, sym, ap, ◌∙◌, nat_le, nat_lt, arith}
use Rattle.std.specs.Prelude.{OnOk, Result, Ok, Err}
use Rattle.std.specs.List.{list_any}
use Rattle.std.proofs.lemmas.Bool.{cases_lt, le-leb, le-ltb, lt-leb, lt-ltb}
use Rattle.jiff_core.specs.declared.civil.date.Date.{Date}
use Rattle.jiff_core.specs.declared.civil.datetime.DateTime.{DateTime}
use Rattle.jiff_tz.specs.declared.timezone.TimeZone.{TimeZone}
use Rattle.cron_units.specs.Sets.{Sets}
use Rattle.cron_units.specs.Units.{contains}
use Rattle.cron_moments.specs.Civil.{civil, days_in_range, time_numbered}
use Rattle.cron_moments.specs.CivilDates.{date_numbered}
use Rattle.cron_moments.specs.Readings.{Reading, readings}
use Rattle.cron_time.specs.Matches.{matches, matches_date}
use Rattle.cron_unions.specs.Unions.{any_of, matches_any}
use Rattle.cron_counting.specs.declared.span.Span.{Span}
use Rattle.cron_counting.specs.declared.times.Times.{Times}
use Rattle.cron_counting.specs.Counts.{items_in}
use Rattle.cron_counting.specs.Inner.Times.{fits_any, has_time, readings_in, IsGathered}
use Rattle.cron_counting.specs.Inner.Totals.{only_if, total}
use Rattle.cron_counting.proofs.CountLemmas.{items_at, items_in-total}
use Rattle.cron_counting.proofs.TotalLemmas.{total-alike}

last_two : (h m s : Bool) → ((h && s) && m) ≡ ((h && m) && s)
last_two true true true = refl
last_two true true false = refl
last_two true false true = refl
last_two true false false = refl
last_two false m s = refl

module _ (day t : ℕ) (less : t < 86_400) where
  day_of : (day * 86_400 + t) / 86_400 ≡ day
  day_of = omega arith

  time_of : (day * 86_400 + t) % 86_400 ≡ t
  time_of = omega arith

  hour_rest : (day * 86_400 + t) % 3600 ≡ t % 3600
  hour_rest = omega arith

  minute_rest : (day * 86_400 + t) % 60 ≡ t % 60
  minute_rest = omega arith

  pub match-parts : (s : Sets) → (matches_date s (date_numbered day).0 && has_time s t) ≡ matches s (civil (day * 86_400 + t))
  unfolding matches civil time_numbered
  match-parts s =
      rw (day_of, time_of, hour_rest, minute_rest)
      (ap (λ b. matches_date s (date_numbered day).0 && b)
      (last_two (contains s.hours (t / 3600)) (contains s.minutes (t % 3600 / 60)) (contains s.seconds (t % 60))))

any_alike : (p q : Sets → Bool) (ss : List Sets) → ((s : Sets) → p s ≡ q s) → list_any p ss ≡ list_any q ss
any_alike p q [] same = refl
any_alike p q (s ∷ ss) same = ap (λ b. b || list_any p ss) (same s) ∙ ap (λ b. q s || b) (any_alike p q ss same)

pub gathered : (ss : List Sets) (xs : List Times) (day : ℕ) (date : Date) → date ≡ (date_numbered day).0
    → ((t : ℕ) → fits_any xs t ≡ list_any (λ s. matches_date s date && has_time s t) ss) → IsGathered ss day xs
gathered ss xs day date e fits t less =
    fits t ∙ any_alike (λ s. matches_date s date && has_time s t) (λ s. matches s (civil (day * 86_400 + t))) ss
    (λ s. ap (λ d. matches_date s d && has_time s t) e ∙ match-parts day t less s)

le_moved : (d a t : ℕ) → nat_le (d + a) (d + t) ≡ nat_le a t
le_moved d a t = elim (cases_lt t a) [
  | inl before ↦ lt-leb (d + a) (d + t) (omega arith) ∙ sym (lt-leb a t before)
  | inr from ↦ le-leb (d + a) (d + t) (omega arith) ∙ sym (le-leb a t from)
]

lt_moved : (d t b : ℕ) → nat_lt (d + t) (d + b) ≡ nat_lt t b
lt_moved d t b = elim (cases_lt t b) [
  | inl less ↦ lt-ltb (d + t) (d + b) (omega arith) ∙ sym (lt-ltb t b less)
  | inr past ↦ le-ltb (d + t) (d + b) (omega arith) ∙ sym (le-ltb t b past)
]

at_once : (w m : Bool) (l : List Reading) → only_if (w && m) (length l) ≡ only_if w (length (cond m l []))
at_once true true l = refl
at_once true false l = refl
at_once false m l = refl

-- the readings of the times in a span are the items there
pub part-count : (ss : List Sets) (xs : List Times) (z : TimeZone) (day : ℕ) (span : Span) (first end : ℕ) → day < days_in_range → span.end ≤ 86_400
    → IsGathered ss day xs → first ≡ day * 86_400 + span.first → end ≡ day * 86_400 + span.end
    → total (readings_in xs z day span) 86_400 ≡ length (items_in (any_of ss) z first end)
part-count ss xs z day span first end range high own from to =
    rw (from, to)
    (total-alike (readings_in xs z day span) inside 86_400 alike
    ∙ sym (items_in-total (any_of ss) z (day * 86_400 + span.first) (day * 86_400 + span.end) (day * 86_400) 86_400 (omega arith) (omega arith) (omega arith)))
  where
    inside : ℕ → ℕ
    inside t = only_if (nat_le (day * 86_400 + span.first) (day * 86_400 + t) && nat_lt (day * 86_400 + t) (day * 86_400 + span.end))
        (length (items_at (any_of ss) z (day * 86_400 + t)))

    alike : (t : ℕ) → t < 86_400 → readings_in xs z day span t ≡ inside t
    alike t less =
        let w = nat_le span.first t && nat_lt t span.end in
        let l = readings z (day * 86_400 + t) in
        ap (λ m. only_if (w && m) (length l)) (own t less)
        ∙ (at_once w (matches_any ss (civil (day * 86_400 + t))) l
        ∙ ap (λ (v : Bool). only_if v (length (items_at (any_of ss) z (day * 86_400 + t))))
        (ap (λ b. b && nat_lt t span.end) (sym (le_moved (day * 86_400) span.first t))
        ∙ ap (λ b. nat_le (day * 86_400 + span.first) (day * 86_400 + t) && b) (sym (lt_moved (day * 86_400) t span.end))))

pub gathered_on : {E : Type 0} (r : Result (Unit {0}) E) (ss : List Sets) (xs : List Times) (day : ℕ) (date : Date) (dt : DateTime)
    → dt ≡ civil (day * 86_400) → date ≡ dt.date
    → OnOk r ((t : ℕ) → fits_any xs t ≡ list_any (λ s. matches_date s date && has_time s t) ss) → OnOk r (IsGathered ss day xs)
unfolding civil
gathered_on (Ok v) ss xs day date dt e g fits =
    let same : day * 86_400 / 86_400 ≡ day = omega arith in
    gathered ss xs day date (g ∙ (ap (λ (d : DateTime). d.date) e ∙ ap (λ n. (date_numbered n).0) same)) fits
gathered_on (Err error) ss xs day date dt e g fits = fits
