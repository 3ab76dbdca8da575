-- The first of the least numbers, and the places of names.
use Rattle.std.proofs.Common.{◌≡◌, ◌<◌, ◌≤◌, ◌+◌, ◌∙◌, ℕ, List, [], get_or, length, map, arith, ap, inl, inr, refl, subst, sym}
use Rattle.std.specs.Borrow.{Bor}
use Rattle.std.specs.Prelude.{Option, Some, None, IfSome, MatchOption}
use Rattle.std.proofs.lemmas.Bool.{cases_lt}
use Rattle.std.proofs.lemmas.List.{get_or-map, length-map}
use Rattle.cron_tips.specs.CalendarNames.{names_of, texts_of}
use Rattle.cron_tips.specs.Nearest.{IsFirstLeast, distance, distances}
use Rattle.cron_tips.specs.ZoneNames.{IsNearAt, last_part}
use Rattle.cron_tips.specs.declared.calendar_names.Names.{Names}
use Rattle.cron_tips.specs.declared.calendar_names.Names.TheVariants.{Months, Days}

-- no number before the place `at` is less than `least`
abbrev pub NoneLess : List ℕ → ℕ → ℕ → Type 0
NoneLess ns at least = (k : ℕ) → k < at → least ≤ get_or ns k 0

pub one_more : (ns : List ℕ) (at least : ℕ) → NoneLess ns at least → least ≤ get_or ns at 0 → NoneLess ns (at + 1) least
one_more ns at least before here = λ k lt.
    elim (cases_lt k at) [
      | inl under ↦ before k under
      | inr over ↦ let same : at ≡ k = omega (arith, over, lt) in subst (λ j. least ≤ get_or ns j 0) same here
    ]

pub lowered : (ns : List ℕ) (at least n : ℕ) → NoneLess ns at least → n ≤ least → NoneLess ns at n
lowered ns at least n before le = λ k lt. let more = before k lt in omega (arith, more, le)

-- what was found before one more place
pub later : (ns : List ℕ) (least end : ℕ) (found : Option ℕ) (at : ℕ)
    → MatchOption found (least ≡ end) (λ i. (i < at) × (get_or ns i 0 ≡ least) × (least < end) × ((k : ℕ) → k < i → least < get_or ns k 0))
    → MatchOption found (least ≡ end) (λ i. (i < at + 1) × (get_or ns i 0 ≡ least) × (least < end) × ((k : ℕ) → k < i → least < get_or ns k 0))
later ns least end None at is = is
later ns least end (Some i) at (lt, here, few, first) = (omega (arith, lt), here, few, first)

-- how many edits make a word the name at a place
pub edits_at : (word : List ℕ) (names : List (Bor (List ℕ))) (i : ℕ) (d : Bor (List ℕ)) → i < length names
    → get_or (distances word (map (λ n. n.now) names)) i 0 ≡ distance word (get_or names i d).now
edits_at word names i d lt =
    get_or-map (distance word) (map (λ n. n.now) names) i [] 0 (rw (length-map names (λ n. n.now)) lt) ∙ ap (distance word) (get_or-map (λ n. n.now) names i d [] lt)

-- a place that was found is one of the list
pub within : (end : ℕ) (ns : List ℕ) (at : Option ℕ) (n : ℕ) → IsFirstLeast end ns at → length ns ≡ n → IfSome at (λ i. i < n)
within end ns None n is long = tt
within end ns (Some i) n (lt, few, least, first) long = omega (arith, lt, long)

alike : (names : Names) → length (texts_of names) ≡ length (names_of names)
alike Months = refl
alike Days = refl

pub as_many : (names : Names) (word : List ℕ) (texts few : List (Bor (List ℕ))) → map (λ t. t.now) texts ≡ texts_of names → map (λ t. t.now) few ≡ names_of names
    → length (distances word (map (λ t. t.now) texts)) ≡ length few
as_many names word texts few are is =
    length-map (map (λ t. t.now) texts) (distance word) ∙ ap length are ∙ alike names ∙ ap length (sym is) ∙ length-map few (λ t. t.now)

pub near_within : (word : List ℕ) (names : List (Bor (List ℕ))) (at : Option ℕ) → IsNearAt word (map (λ n. n.now) names) at → IfSome at (λ i. i < length names)
near_within word names at (Some whole, first, behind) =
    let long = length-map (map (λ n. n.now) names) (distance word) ∙ length-map names (λ n. n.now) in
    subst (λ o. IfSome o (λ i. i < length names)) (sym behind) (within _ _ (Some whole) (length names) first long)
near_within word names at (None, first, behind) =
    let long = length-map (map last_part (map (λ n. n.now) names)) (distance word) ∙ length-map (map (λ n. n.now) names) last_part ∙ length-map names (λ n. n.now) in
    within _ _ at (length names) behind long
