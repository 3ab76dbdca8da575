-- What stands behind times.
use Rattle.std.proofs.Common.{◌≡◌, ◌==◌, ℕ, Bool, true, false, cond, nat_le, List, [], ◌∷◌, ◌++◌, codes, get_or, length, refl, sym, subst, arith}
use Rattle.std.proofs.lemmas.Bool.Decides.{nat_tests}
use Rattle.cron_text.proofs.TokenRuns.{and_parts}
use Rattle.cron_text.specs.Tokens.{is_digit}
use Rattle.cron_units.specs.Units.{IsSet}
use Rattle.cron_units.specs.Units as units
use Rattle.cron_words.specs.Lists.{is_whole}
use Rattle.cron_words.specs.Schedules.{led_text, weekdays_text}
use Rattle.cron_words.specs.declared.lists.Naming.TheVariants.{Numbers, Weekdays}
use Rattle.cron_words.proofs.DatesApart.{IsTail, set_first, some_told}
use Rattle.cron_words.proofs.ListsApart.{stops}
use Rattle.cron_words.proofs.NameLemmas.{is_capital}
use Rattle.cron_words.proofs.PhrasesApart.{weekdays_are}
use Rattle.cron_words.proofs.TimesApart.{NoSpace}

capital_no_digit : (c : ℕ) → is_capital c ≡ true → is_digit c ≡ false
capital_no_digit c h = let p = and_parts (nat_le 65 c) (nat_le c 90) h in grind (arith, nat_tests, p.0)

-- a text that may stand behind times
pub record IsBehindTimes (r : List ℕ) : Type 0 where
  pub stop : stops Numbers r ≡ true
  pub space : NoSpace r

capital_stops : (x : List ℕ) → is_capital (get_or x 0 0) ≡ true → stops Numbers (44 ∷ 32 ∷ x) ≡ true
unfolding stops
capital_stops x h = rw (capital_no_digit (get_or x 0 0) h) refl

pub on_stops : (x : List ℕ) → stops Numbers (44 ∷ 32 ∷ 111 ∷ x) ≡ true
unfolding stops
on_stops x = refl

pub weekdays_behind : (ns r : List ℕ) → IsSet units.days_of_week ns → IsTail 1 r → IsBehindTimes (weekdays_text ns ++ r)
weekdays_behind ns r s t = by_test (is_whole units.days_of_week ns) where
  by_word : (alone : Bool) (x : List ℕ) → is_capital (get_or x 0 0) ≡ true → IsBehindTimes (cond alone (codes ", on ") (codes ", ") ++ x)
  by_word true x h = record { stop = on_stops _; space = refl }
  by_word false x h = record { stop = capital_stops x h; space = refl }

  by_list : (ms : List ℕ) → IsSet units.days_of_week ms
      → IsBehindTimes ((cond (length ms == 0) (codes ", on no weekday") (led_text (codes ", on ") (codes ", ") Weekdays ms)) ++ r)
  by_list [] v = record { stop = on_stops _; space = refl }
  by_list (m ∷ ms) v =
      subst IsBehindTimes (sym (some_told 1 _ _ _ Weekdays units.days_of_week weekdays_are m ms r))
      (by_word _ _ (set_first 1 _ _ _ Weekdays units.days_of_week weekdays_are m ms r v))

  by_test : (a : Bool) → IsBehindTimes ((cond a [] (cond (length ns == 0) (codes ", on no weekday") (led_text (codes ", on ") (codes ", ") Weekdays ns))) ++ r)
  by_test true = record { stop = t.stop Numbers; space = t.space }
  by_test false = by_list ns s
