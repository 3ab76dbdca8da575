-- Laws of windows.
use Rattle.std.proofs.Common.{◌≡◌, ℤ, ◌≤ℤ◌, ◌<ℤ◌, Bool, true, false, List, refl, sym, ap, ◌∙◌, arith}
use Rattle.std.specs.Prelude.{int_le, not, ◌&&◌, filter}
use Rattle.std.specs.Bool.{beq}
use Rattle.std.proofs.lemmas.Int.{ints, by_lt_z}
use Rattle.cron_time.proofs.ListLemmas.{among-filter, filter-among}
use Rattle.cron_seconds.proofs.IntLemmas.{int_le-true}
use Rattle.cron_stretches.specs.declared.stretch.Stretch.{Stretch}
use Rattle.cron_stretches.specs.Laws.{HasSecond, IsEquality}
use Rattle.cron_stretches.specs.Stretches.{stretches_between}
use Rattle.cron_stretches.proofs.StretchLemmas.{alike-each, has-second}
use Rattle.cron_seconds.specs.Rules.{IsAmong}
use Rattle.cron_windows.specs.Windows.{closed_by, has_closed, has_come, is_open, windows_between}
use Rattle.cron_windows.specs.declared.closing.Closing.TheVariants.{AtFires}
use Rattle.cron_stretches.proofs.FireLemmas.{any-some}
use Rattle.cron_windows.proofs.ClosingLemmas.{and_each, come-no, come-none, is-closing}
use Rattle.cron_windows.proofs.WindowLemmas.{open-yes}

pub beq-is : IsEquality beq
beq-is = record {
  itself = λ b. itself b;
  same = λ a b h. same a b h;
}
  where
    itself : (b : Bool) → beq b b ≡ true
    itself true = refl
    itself false = refl

    same : (a b : Bool) → beq a b ≡ true → a ≡ b
    same true true h = refl
    same true false h = absurd (cc)
    same false true h = absurd (cc)
    same false false h = refl

module _ (test : ℤ → Bool) (from to t : ℤ) (low : from ≤ℤ t) (high : t <ℤ to) where
  pub listed : test t ≡ true → HasSecond (windows_between test from to) t
  listed h =
      let has = has-second beq beq-is test from to t low high in
      let alike : test t ≡ has.stretch.value = alike-each beq beq-is test from to has.place has.stretch has.here t has.from has.to in
      let kept = filter-among (λ s. s.value) (stretches_between beq test from to) has.stretch (has.place, has.here) (sym alike ∙ h) in
      record { stretch = has.stretch; place = kept.0; here = kept.1; from = has.from; to = has.to }

  pub listed_open : HasSecond (windows_between test from to) t → test t ≡ true
  listed_open has =
      let both = among-filter (λ s. s.value) (stretches_between beq test from to) has.stretch (has.place, has.here) in
      alike-each beq beq-is test from to both.0.0 has.stretch both.0.1 t has.from has.to ∙ both.1

module _ (opens closes : List ℤ) (t : ℤ) where
  pub latest-opens : is_open (closed_by opens closes) t ≡ true
      → (n : ℤ) × IsAmong opens n × (n ≤ℤ t) × ((c : ℤ) → IsAmong closes c → c ≤ℤ t → c ≤ℤ n)
  unfolding is_open has_closed
  latest-opens h =
      let (q, among, passes) = any-some (λ fire. int_le fire t && not (has_come closes fire t)) opens h in
      let both = and_each (int_le q t) (not (has_come closes q t)) passes in
      let unclosed : has_come closes q t ≡ false = not_true (has_come closes q t) both.1 in (
        q,
        among,
        int_le-true q t both.0,
        λ c is le. by_lt_z q c (λ later. absurd (come-none closes q t unclosed c is later le)) (λ early. early),
      )
    where
      not_true : (b : Bool) → not b ≡ true → b ≡ false
      not_true true h = absurd (cc)
      not_true false h = refl

  pub opens-latest : (n : ℤ) → IsAmong opens n → n ≤ℤ t → ((c : ℤ) → IsAmong closes c → c ≤ℤ t → c ≤ℤ n) → is_open (closed_by opens closes) t ≡ true
  unfolding has_closed
  opens-latest n one le latest =
      open-yes (closed_by opens closes) (is-closing (AtFires closes) refl) n t one le
      (come-no closes n t (λ c is low high. let early = latest c is high in absurd (omega (arith, ints))))
