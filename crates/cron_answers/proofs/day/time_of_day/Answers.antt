use Rattle.std.proofs.Common.{◌≡◌, ℕ, List, Option, Some, None, IfSome, inl, inr, length, ap, arith}
use Rattle.cron_answers.specs.Days.{IsMinuteOfDay, IsSecondOfDay, IsTimeOfDay}
use Rattle.cron_answers.specs.Instants.{TellsSecond}
use Rattle.cron_answers.proofs.day.time_of_day.Goals as goal

None≢Some : {A : Type 0} {x : A} → None ≡ Some x → ⊥
None≢Some h = cc

long : (text : List ℕ) (n : ℕ) → IsSecondOfDay text n → length text ≡ 8
long text n s = ap length s.spelled

short : (text : List ℕ) (n : ℕ) → IsMinuteOfDay text n → length text ≡ 5
short text n m = ap length m.spelled

of_minutes : (text : List ℕ) (r : Option ℕ) → length text ≡ 5 → IfSome r (IsMinuteOfDay text) → ((n : ℕ) → IsMinuteOfDay text n → r ≡ Some n)
    → TellsSecond (IsTimeOfDay text) r
of_minutes text None five some only =
    λ n t. elim t [
      | inl m ↦ None≢Some (only n m)
      | inr s ↦ let eight = long text n s in omega arith
    ]
of_minutes text (Some n) five some only = inl some

of_seconds : (text : List ℕ) (r : Option ℕ) → length text ≡ 8 → IfSome r (IsSecondOfDay text) → ((n : ℕ) → IsSecondOfDay text n → r ≡ Some n)
    → TellsSecond (IsTimeOfDay text) r
of_seconds text None eight some only =
    λ n t. elim t [
      | inl m ↦ let five = short text n m in omega arith
      | inr s ↦ None≢Some (only n s)
    ]
of_seconds text (Some n) eight some only = inr some

pub returns-in-5-clause-time : goal.returns-in-5-clause-time
returns-in-5-clause-time c =
    rw (← c.as_bytes-text.ensures.value) (of_minutes _ c.minute_of_day.result c.in-5.is c.minute_of_day.ensures.spelled c.minute_of_day.ensures.only)

pub returns-in-8-clause-time : goal.returns-in-8-clause-time
returns-in-8-clause-time c =
    rw (← c.as_bytes-text.ensures.value) (of_seconds _ c.second_of_day.result c.in-8.is c.second_of_day.ensures.spelled c.second_of_day.ensures.only)
