-- Times of day that a set has on one of several days.
use Rattle.std.proofs.Common.{◌≡◌, ℕ, zero, suc, ◌+◌, ◌-◌, ◌*◌, ◌/◌, ◌%◌, ◌<◌, ◌≤◌, ℤ, pos, nat_lt, Bool, true, false, ◌&&◌, ◌||◌, Option, Some, None, IfSome, refl, sym, ap, ◌∙◌, subst, inl, inr, arith}
use Rattle.std.proofs.lemmas.Bool.{and_parts, cases_lt, false_from_ne_true, le-ltb, lt-ltb, ltb-true, or_cases, or_left, or_right, both_ways}
use Rattle.jiff_core.proofs.SignedLemmas.{signed_arith}
use Rattle.cron_units.specs.declared.way.Way.{Way}
use Rattle.cron_units.specs.declared.way.Way.TheVariants.{Ahead, Back}
use Rattle.cron_units.specs.Nearest.{IsNearest, IsNearestAt, LiesFrom, Precedes}
use Rattle.cron_moments.specs.Civil.{days_in_range, seconds_in_range}
use Rattle.cron_time.specs.Seconds.{Seconds, is_match}
use Rattle.cron_days.specs.Inner.Times.{has_time, has_time_on_any}

-- ---- directions

pub lies_in : (way : Way) (a t k : ℕ) → LiesFrom way (pos t) k → LiesFrom way (pos (a + t)) (a + k)
lies_in Ahead a t k h = omega (arith, signed_arith)
lies_in Back a t k h = omega (arith, signed_arith)

pub lies_out : (way : Way) (a t k : ℕ) → LiesFrom way (pos (a + t)) (a + k) → LiesFrom way (pos t) k
lies_out Ahead a t k h = omega (arith, signed_arith)
lies_out Back a t k h = omega (arith, signed_arith)

pub precedes_in : (way : Way) (a k m : ℕ) → Precedes way k m → Precedes way (a + k) (a + m)
precedes_in Ahead a k m h = omega arith
precedes_in Back a k m h = omega arith

-- a second of a day before which none comes, and another of the day from the same place on
same_day : (way : Way) (day time k n : ℕ) → k < 86_400 → LiesFrom way (pos (day * 86_400 + time)) n → LiesFrom way (pos (day * 86_400 + time)) (day * 86_400 + k)
    → (Precedes way (day * 86_400 + k) n → ⊥) → time < 86_400 → n / 86_400 ≡ day
same_day Ahead day time k n high lies from not low = elim (cases_lt (day * 86_400 + k) n) [
  | inl less ↦ absurd (not less)
  | inr ge ↦ omega (arith, signed_arith)
]
same_day Back day time k n high lies from not low = elim (cases_lt n (day * 86_400 + k)) [
  | inl less ↦ absurd (not less)
  | inr ge ↦ omega (arith, signed_arith)
]

-- ---- one day

module _ (s : Seconds) (day : ℕ) (high : day < days_in_range) where
  pub as_match : (t : ℕ) → t < 86_400 → has_time s day t ≡ is_match s (day * 86_400 + t)
  as_match t h =
      ap (λ b. b && s (day * 86_400 + t)) (lt-ltb t 86_400 h ∙ sym (lt-ltb (day * 86_400 + t) seconds_in_range (omega arith)))

  pub not_by_match : (t : ℕ) → (t < 86_400 → is_match s (day * 86_400 + t) ≡ false) → has_time s day t ≡ false
  not_by_match t h = elim (cases_lt t 86_400) [
    | inl less ↦ as_match t less ∙ h less
    | inr ge ↦ ap (λ b. b && s (day * 86_400 + t)) (le-ltb t 86_400 ge)
  ]

  pub time_none : (way : Way) (time : ℕ) → IsNearest way (is_match s) (pos (day * 86_400 + time)) None → IsNearest way (has_time s day) (pos time) None
  time_none way time none = λ k lies. not_by_match k (λ less. none (day * 86_400 + k) (lies_in way (day * 86_400) time k lies))

  pub time_elsewhere : (way : Way) (time n : ℕ) → time < 86_400 → IsNearestAt way (is_match s) (pos (day * 86_400 + time)) n → (n / 86_400 ≡ day → ⊥)
      → IsNearest way (has_time s day) (pos time) None
  time_elsewhere way time n low found other =
      λ k lies. not_by_match k (λ less. false_from_ne_true (is_match s (day * 86_400 + k)) (λ yes.
      let from = lies_in way (day * 86_400) time k lies in
      other (same_day way day time k n less found.lies from
      (λ past. both_ways (is_match s (day * 86_400 + k)) (found.nearest (day * 86_400 + k) from past) yes) low)))

  pub time_here : (way : Way) (time n : ℕ) → IsNearestAt way (is_match s) (pos (day * 86_400 + time)) n → n / 86_400 ≡ day → IsNearestAt way (has_time s day) (pos time) (n % 86_400)
  time_here way time n found same =
      let whole : n ≡ day * 86_400 + n % 86_400 = omega arith in
      record {
        passes = as_match (n % 86_400) (omega arith) ∙ ap (is_match s) (sym whole) ∙ found.passes;
        lies = lies_out way (day * 86_400) time (n % 86_400) (subst (λ m. LiesFrom way (pos (day * 86_400 + time)) m) whole found.lies);
        nearest = λ k lies past. not_by_match k (λ less. found.nearest (day * 86_400 + k) (lies_in way (day * 86_400) time k lies)
            (subst (λ m. Precedes way (day * 86_400 + k) m) (sym whole) (precedes_in way (day * 86_400) k (n % 86_400) past)));
      }

-- ---- several days

pub any_none : (s : Seconds) (first k : ℕ) → has_time_on_any s first (first - first) k ≡ false
any_none s first k = let e : first - first ≡ 0 = omega arith in ap (λ n. has_time_on_any s first n k) e

pub any_more : (s : Seconds) (first day k : ℕ) → first ≤ day → has_time_on_any s first (day + 1 - first) k ≡ (has_time_on_any s first (day - first) k || has_time s day k)
any_more s first day k le =
    let e : day + 1 - first ≡ suc (day - first) = omega arith in
    let f : first + (day - first) ≡ day = omega arith in
    ap (λ n. has_time_on_any s first n k) e ∙ ap (λ d. has_time_on_any s first (day - first) k || has_time s d k) f

pub any_at : (s : Seconds) (first n e t : ℕ) → first ≤ e → e < first + n → has_time s e t ≡ true → has_time_on_any s first n t ≡ true
any_at s first zero e t low high is = absurd (omega arith)
any_at s first (suc n) e t low high is = elim (cases_lt e (first + n)) [
  | inl less ↦ or_left (has_time_on_any s first n t) (has_time s (first + n) t) (any_at s first n e t low less is)
  | inr ge ↦
      let last : e ≡ first + n = omega arith in
      or_right (has_time_on_any s first n t) (has_time s (first + n) t) (subst (λ d. has_time s d t ≡ true) last is)
]

-- the day among so many that has the time
pub record IsOn (s : Seconds) (first n t e : ℕ) : Type 0 where
  pub low : first ≤ e
  pub high : e < first + n
  pub has : has_time s e t ≡ true

pub any_from : (s : Seconds) (first n t : ℕ) → has_time_on_any s first n t ≡ true → (e : ℕ) × IsOn s first n t e
any_from s first zero t is = absurd (both_ways false refl is)
any_from s first (suc n) t is = elim (or_cases (has_time_on_any s first n t) (has_time s (first + n) t) is) [
  | inl before ↦ let on = any_from s first n t before in (on.0, record { low = on.1.low; high = let h = on.1.high in omega arith; has = on.1.has })
  | inr here ↦ (first + n, record { low = omega arith; high = omega arith; has = here })
]

pub time_below : (s : Seconds) (day t : ℕ) → has_time s day t ≡ true → t < 86_400
time_below s day t is = ltb-true t 86_400 (and_parts (nat_lt t 86_400) (s (day * 86_400 + t)) is).0

pub any_below : (way : Way) (s : Seconds) (first n : ℕ) (start : ℤ) (found : Option ℕ) → IsNearest way (has_time_on_any s first n) start found → IfSome found (λ t. t < 86_400)
any_below way s first n start None none = tt
any_below way s first n start (Some t) found = let on = any_from s first n t found.passes in time_below s on.0 t on.1.has

-- tests that agree have the same nearest number
pub nearest_alike : (way : Way) (m t : ℕ → Bool) (start : ℤ) (found : Option ℕ) → ((k : ℕ) → t k ≡ m k) → IsNearest way m start found → IsNearest way t start found
nearest_alike way m t start None same none = λ k lies. same k ∙ none k lies
nearest_alike way m t start (Some n) same is = record {
  passes = same n ∙ is.passes;
  lies = is.lies;
  nearest = λ k lies past. same k ∙ is.nearest k lies past;
}
