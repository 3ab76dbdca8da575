-- Schedules that match no civil second.
use Rattle.std.proofs.Common.{◌≡◌, ◌<◌, ◌&&◌, ◌||◌, ◌+◌, ℕ, Bool, true, false, nat_lt, List, ◌∷◌, length, get_or, drop, drop-cons, add-one, ap, refl, sym, ◌∙◌, arith}
use Rattle.cron_units.specs.Sets.{Sets}
use Rattle.cron_moments.specs.Civil.{civil, seconds_in_range}
use Rattle.cron_time.specs.Matches.{is_match, matches}
use Rattle.cron_tabs.specs.DayRule.{matches_one}
use Rattle.cron_tabs.proofs.RuleLemmas.{fields_run}
use Rattle.cron_tab_warnings.specs.Warnings.{NeverRunsByFields}

pub by-fields : NeverRunsByFields
by-fields f = (λ never c lt. sym (fields_run f c lt) ∙ never c lt, λ none c lt. fields_run f c lt ∙ none c lt)

front-false : (b c : Bool) → (b || c) ≡ false → b ≡ false
front-false true c none = none
front-false false c none = refl

and-front : (b c : Bool) → (b ≡ true → c ≡ false) → (b && c) ≡ false
and-front true c none = none refl
and-front false c none = refl

pub none-at : (ss : List Sets) (i : ℕ) (s : Sets) → i < length ss → s ≡ get_or ss i s
    → ((c : ℕ) → c < seconds_in_range → matches_one (drop i ss) (civil c) ≡ matches_one ss (civil c))
    → ((c : ℕ) → c < seconds_in_range → matches_one ss (civil c) ≡ false) → (c : ℕ) → is_match s c ≡ false
none-at ss i s some is left none c = and-front (nat_lt c seconds_in_range) (matches s (civil c)) here
  where
    here : nat_lt c seconds_in_range ≡ true → matches s (civil c) ≡ false
    here in_range =
        let lt : c < seconds_in_range = grind arith in
        let cut : drop i ss ≡ s ∷ drop (i + 1) ss = drop-cons ss i s some ∙ rw (sym is, add-one i) refl in
        front-false (matches s (civil c)) (matches_one (drop (i + 1) ss) (civil c))
        (sym (ap (λ (l : List Sets). matches_one l (civil c)) cut) ∙ (left c lt ∙ none c lt))
