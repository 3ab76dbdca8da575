-- Where days and civil seconds lie in a direction.
use Rattle.std.proofs.Common.{◌≡◌, ℕ, ◌+◌, ◌*◌, ◌/◌, ◌%◌, ◌<◌, ◌≤◌, pos, ◌⊎◌, inl, inr, arith}
use Rattle.std.proofs.lemmas.Bool.{cases_eq, cases_lt}
use Rattle.jiff_core.proofs.SignedLemmas.{signed_arith}
use Rattle.cron_units.specs.declared.way.Way.{Way}
use Rattle.cron_units.specs.declared.way.Way.TheVariants.{Ahead, Back}
use Rattle.cron_units.specs.Nearest.{LiesFrom, Precedes}
use Rattle.cron_time.specs.Search.Inner.Numbers.{beyond_day}
use Rattle.cron_days.specs.Inner.Times.{first_time, past_days}

pub not_before : (way : Way) (n m day : ℕ) → m / 86_400 ≡ day → (Precedes way m n → ⊥) → LiesFrom way (pos (n / 86_400)) day
not_before Ahead n m day is not = elim (cases_lt m n) [
  | inl less ↦ absurd (not less)
  | inr ge ↦ omega (arith, signed_arith)
]
not_before Back n m day is not = elim (cases_lt n m) [
  | inl less ↦ absurd (not less)
  | inr ge ↦ omega (arith, signed_arith)
]

-- a number past some days lies on a day past each of them
pub day_past : (way : Way) (first last n target : ℕ) → first ≤ target → target ≤ last → LiesFrom way (past_days way first last) n → Precedes way target (n / 86_400)
day_past Ahead first last n target low high lies = omega (arith, signed_arith)
day_past Back first last n target low high lies = omega (arith, signed_arith)

pub outside : (way : Way) (first last n : ℕ) → LiesFrom way (past_days way first last) n → first ≤ n / 86_400 → n / 86_400 ≤ last → ⊥
outside Ahead first last n lies low high = omega (arith, signed_arith)
outside Back first last n lies low high = omega (arith, signed_arith)

pub some_allowed : (way move : Way) (q e there own : ℕ) → LiesFrom way (pos q) e → LiesFrom move (pos e) there → Precedes way own q
    → LiesFrom move (pos q) there ⊎ LiesFrom move (pos q) own
some_allowed Ahead Ahead q e there own on goes past = inl (omega (arith, signed_arith))
some_allowed Back Back q e there own on goes past = inl (omega (arith, signed_arith))
some_allowed Ahead Back q e there own on goes past = inr (omega (arith, signed_arith))
some_allowed Back Ahead q e there own on goes past = inr (omega (arith, signed_arith))

pub from_first_time : (way : Way) (t : ℕ) → t < 86_400 → LiesFrom way (pos (first_time way)) t
from_first_time Ahead t h = omega (arith, signed_arith)
from_first_time Back t h = omega (arith, signed_arith)

-- the day that the next one goes to lies past the target
pub target_past : (way : Way) (first last n target g t : ℕ) → LiesFrom way (past_days way first last) n → t < 86_400 → (g ≡ target → ⊥) → (last ≤ n / 86_400 → target ≤ g)
    → (n / 86_400 ≤ first → g ≤ target) → LiesFrom way (beyond_day way target) (g * 86_400 + t)
target_past Ahead first last n target g t lies less other up down =
    let le = up (omega (arith, signed_arith)) in
    elim (cases_lt target g) [
      | inl past ↦ omega (arith, signed_arith)
      | inr ge ↦ absurd (other (omega arith))
    ]
target_past Back first last n target g t lies less other up down =
    let le = down (omega (arith, signed_arith)) in
    elim (cases_lt g target) [
      | inl past ↦ omega (arith, signed_arith)
      | inr ge ↦ absurd (other (omega arith))
    ]

-- before the one that was found no other day is gone to
pub same_target : (way : Way) (q e there g k t : ℕ) → t < 86_400 → there ≡ k / 86_400 → LiesFrom way (pos q) e → Precedes way k (g * 86_400 + t) → (q ≤ e → g ≤ there)
    → (e ≤ q → there ≤ g) → there ≡ g
same_target Ahead q e there g k t less is on past up down = let le = up (omega (arith, signed_arith)) in omega arith
same_target Back q e there g k t less is on past up down = let le = down (omega (arith, signed_arith)) in omega arith

pub same_day_precedes : (way : Way) (day k t : ℕ) → k / 86_400 ≡ day → t < 86_400 → Precedes way k (day * 86_400 + t) → Precedes way (k % 86_400) t
same_day_precedes Ahead day k t is less past = omega arith
same_day_precedes Back day k t is less past = omega arith

pub day_lies : (way : Way) (start k : ℕ) → LiesFrom way (pos start) k → LiesFrom way (pos (start / 86_400)) (k / 86_400)
day_lies Ahead start k lies = omega (arith, signed_arith)
day_lies Back start k lies = omega (arith, signed_arith)

pub on_or_past : (way : Way) (start k day time : ℕ) → LiesFrom way (pos start) k → (day ≡ start / 86_400 → time ≡ start % 86_400)
    → ((day ≡ start / 86_400 → ⊥) → time ≡ first_time way) → (Precedes way (k / 86_400) day → ⊥)
    → ((k / 86_400 ≡ day) × LiesFrom way (pos time) (k % 86_400)) ⊎ LiesFrom way (beyond_day way day) k
on_or_past Ahead start k day time lies own other not = elim (cases_lt (k / 86_400) day) [
  | inl less ↦ absurd (not less)
  | inr ge ↦ elim (cases_lt day (k / 86_400)) [
    | inl past ↦ inr (omega (arith, signed_arith))
    | inr le ↦ elim (cases_eq day (start / 86_400)) [
      | inl same ↦ let e = own same in inl (omega arith, omega (arith, signed_arith))
      | inr apart ↦ let e = other apart in inl (omega arith, omega (arith, signed_arith))
    ]
  ]
]
on_or_past Back start k day time lies own other not = elim (cases_lt day (k / 86_400)) [
  | inl less ↦ absurd (not less)
  | inr ge ↦ elim (cases_lt (k / 86_400) day) [
    | inl past ↦ inr (omega (arith, signed_arith))
    | inr le ↦ elim (cases_eq day (start / 86_400)) [
      | inl same ↦ let e = own same in inl (omega arith, omega (arith, signed_arith))
      | inr apart ↦ let e = other apart in inl (omega arith, omega (arith, signed_arith))
    ]
  ]
]

pub lies_here : (way : Way) (start day time t : ℕ) → LiesFrom way (pos (start / 86_400)) day → LiesFrom way (pos time) t → (day ≡ start / 86_400 → time ≡ start % 86_400)
    → ((day ≡ start / 86_400 → ⊥) → time ≡ first_time way) → t < 86_400 → LiesFrom way (pos start) (day * 86_400 + t)
lies_here Ahead start day time t lies on own other less = elim (cases_eq day (start / 86_400)) [
  | inl same ↦ let e = own same in omega (arith, signed_arith)
  | inr apart ↦ elim (cases_lt (start / 86_400) day) [
    | inl past ↦ omega (arith, signed_arith)
    | inr ge ↦ absurd (apart (omega (arith, signed_arith)))
  ]
]
lies_here Back start day time t lies on own other less = elim (cases_eq day (start / 86_400)) [
  | inl same ↦ let e = own same in omega (arith, signed_arith)
  | inr apart ↦ elim (cases_lt day (start / 86_400)) [
    | inl past ↦ omega (arith, signed_arith)
    | inr ge ↦ absurd (apart (omega (arith, signed_arith)))
  ]
]

pub not_both : (way : Way) (day t k : ℕ) → t < 86_400 → Precedes way k (day * 86_400 + t) → LiesFrom way (beyond_day way day) k → ⊥
not_both Ahead day t k less past beyond = omega (arith, signed_arith)
not_both Back day t k less past beyond = omega (arith, signed_arith)

pub beyond_lies : (way : Way) (start day m : ℕ) → LiesFrom way (pos (start / 86_400)) day → LiesFrom way (beyond_day way day) m → LiesFrom way (pos start) m
beyond_lies Ahead start day m lies beyond = omega (arith, signed_arith)
beyond_lies Back start day m lies beyond = omega (arith, signed_arith)
