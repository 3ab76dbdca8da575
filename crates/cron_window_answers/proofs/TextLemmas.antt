-- The text of an instant, and texts in parts.
use Rattle.std.proofs.Common.{◌≡◌, ℕ, ◌<◌, ℤ, pos, negsuc, ◌+ℤ◌, ◌*ℤ◌, Bool, true, false, cond, List, [], ◌++◌, Some, None, refl, sym, ap, ◌∙◌, append_assoc, arith}
use Rattle.std.specs.Prelude.{nat_lt}
use Rattle.jiff_core.proofs.SignedLemmas.{signed_arith}
use Rattle.jiff_core.specs.declared.Offset.{Offset}
use Rattle.jiff_tz.specs.Zone.{offset_at}
use Rattle.jiff_tz.specs.declared.timezone.TimeZone.{TimeZone}
use Rattle.cron_clocks.proofs.TableLemmas.{same_offset}
use Rattle.cron_dues.specs.Clock.Due.{shows}
use Rattle.cron_dues.specs.Due.{clock_of}
use Rattle.cron_moments.specs.Civil.{seconds_in_range}
use Rattle.cron_moments.specs.MomentText.{moment_text}
use Rattle.cron_moments.specs.Parts.{ShowsAt}
use Rattle.cron_moments.specs.Readings.{Reading, reading}
use Rattle.cron_window_answers.specs.Texts.{counted_text, instant_text, shown_text}

lt_yes : (a b : ℕ) → a < b → nat_lt a b ≡ true
lt_yes a b h = grind arith

lt_of : (a b : ℕ) → nat_lt a b ≡ true → a < b
lt_of a b h = grind arith

-- a civil second in the range is shown as a moment
in_range : (n : ℤ) (o : Offset) (c : ℕ) (i : ℤ) → i ≡ pos c → c < seconds_in_range → moment_text (reading c o) ≡ shown_text n o i
in_range n o c i is below =
    let less : nat_lt c seconds_in_range ≡ true = lt_yes c seconds_in_range below in rw (is, less) refl

no_moment : (m : Reading) → None ≡ Some m → ⊥
no_moment m e = cc

-- no other is
out_of_range : (n : ℤ) (o : Offset) (i : ℤ) → i ≡ n +ℤ o.seconds → ((m : Reading) → ShowsAt n o m → ⊥) → counted_text n ≡ shown_text n o i
out_of_range n o (negsuc c) is none = refl
out_of_range n o (pos c) is none = by_test (nat_lt c seconds_in_range) refl
  where
    by_test : (b : Bool) → nat_lt c seconds_in_range ≡ b → counted_text n ≡ cond b (moment_text (reading c o)) (counted_text n)
    by_test false e = refl
    by_test true e =
        absurd (none (reading c o) (record { in_range = lt_of c seconds_in_range e; instant_is = omega (arith, signed_arith); offset_is = refl }))

module _ (z : TimeZone) (n : ℤ) (o : Offset) (is : o.seconds ≡ offset_at z (n *ℤ pos 1_000_000_000)) where
  own_offset : o ≡ clock_of z n
  own_offset = same_offset o (clock_of z n) is

  -- the clock shows a moment in the range
  pub moment-is : (m : Reading) → ShowsAt n o m → moment_text m ≡ instant_text z n
  unfolding instant_text
  moment-is m h =
      let same : m.offset ≡ clock_of z n = h.offset_is ∙ own_offset in
      let seconds : m.offset.seconds ≡ (clock_of z n).seconds = ap (λ (p : Offset). p.seconds) same in
      let at = h.instant_is in
      let shown : shows (clock_of z) n ≡ pos m.second = omega (arith, signed_arith) in
      ap (λ (p : Offset). moment_text (reading m.second p)) same ∙ in_range n (clock_of z n) m.second (shows (clock_of z) n) shown h.in_range

  -- it shows none
  pub counted-is : ((m : Reading) → ShowsAt n o m → None ≡ Some m) → counted_text n ≡ instant_text z n
  unfolding instant_text
  counted-is none =
      out_of_range n (clock_of z n) (shows (clock_of z) n) refl
      (λ m h. no_moment m (none m (record { in_range = h.in_range; instant_is = h.instant_is; offset_is = h.offset_is ∙ sym own_offset })))

-- ---- parts, one after another

pub joined-2 : (a b l0 l1 l2 : List ℕ) → l1 ≡ l0 ++ a → l2 ≡ l1 ++ b → l2 ≡ l0 ++ (a ++ b)
joined-2 a b l0 l1 l2 e1 e2 = rw (e2, e1) (append_assoc l0 a b)

pub joined-3 : (a b c l0 l1 l2 l3 : List ℕ) → l1 ≡ l0 ++ a → l2 ≡ l1 ++ b → l3 ≡ l2 ++ c → l3 ≡ l0 ++ (a ++ (b ++ c))
joined-3 a b c l0 l1 l2 l3 e1 e2 e3 = rw (e3, e2, e1) (simp append_assoc)

pub joined-4 : (a b c d l0 l1 l2 l3 l4 : List ℕ) → l0 ≡ [] → l1 ≡ l0 ++ a → l2 ≡ l1 ++ b → l3 ≡ l2 ++ c → l4 ≡ l3 ++ d
    → l4 ≡ a ++ (b ++ (c ++ d))
joined-4 a b c d l0 l1 l2 l3 l4 e0 e1 e2 e3 e4 = rw (e4, e3, e2, e1, e0) (simp append_assoc)

pub joined-6 : (a b c d e f l0 l1 l2 l3 l4 l5 l6 : List ℕ) → l0 ≡ [] → l1 ≡ l0 ++ a → l2 ≡ l1 ++ b → l3 ≡ l2 ++ c → l4 ≡ l3 ++ d
    → l5 ≡ l4 ++ e → l6 ≡ l5 ++ f → l6 ≡ a ++ (b ++ (c ++ (d ++ (e ++ f))))
joined-6 a b c d e f l0 l1 l2 l3 l4 l5 l6 e0 e1 e2 e3 e4 e5 e6 = rw (e6, e5, e4, e3, e2, e1, e0) (simp append_assoc)

pub joined-7 : (a b c d e f h l0 l1 l2 l3 l4 l5 l6 l7 : List ℕ) → l0 ≡ [] → l1 ≡ l0 ++ a → l2 ≡ l1 ++ b → l3 ≡ l2 ++ c → l4 ≡ l3 ++ d
    → l5 ≡ l4 ++ e → l6 ≡ l5 ++ f → l7 ≡ l6 ++ h → l7 ≡ a ++ (b ++ (c ++ (d ++ (e ++ (f ++ h)))))
joined-7 a b c d e f h l0 l1 l2 l3 l4 l5 l6 l7 e0 e1 e2 e3 e4 e5 e6 e7 = rw (e7, e6, e5, e4, e3, e2, e1, e0) (simp append_assoc)
