use Rattle.std.proofs.Common.{◌≡◌, ◌≤ℤ◌, ◌<ℤ◌, ℤ, Bool, true, false, sym, ap, ◌∙◌, arith, refl, inl, inr}
use Rattle.std.proofs.lemmas.Bool.{true≢false}
use Rattle.std.specs.Ordering.{int_cmp, is_lt}
use Rattle.std.proofs.lemmas.Cmp.{by_ranked}
use Rattle.std.specs.Cmp.{int_ranks}
use Rattle.jiff_core.proofs.SignedLemmas.{signed_arith}
use Rattle.cron_answers.proofs.span.both_ends.Goals as goal

-- an instant that is less comes before
less : (a b : ℤ) (t : Bool) → t ≡ is_lt (int_cmp a b) → t ≡ true → a <ℤ b
less a b t e h =
    let is : is_lt (int_cmp a b) ≡ true = sym e ∙ h in
    by_ranked (a <ℤ b) (a ≡ b) (b <ℤ a) (int_cmp a b) (int_ranks a b) (λ o m. m) (λ o m. absurd (true≢false (sym is ∙ ap is_lt o)))
    (λ o m. absurd (true≢false (sym is ∙ ap is_lt o)))

-- and one that isn't doesn't
no_less : (a b : ℤ) (t : Bool) → t ≡ is_lt (int_cmp a b) → t ≡ false → b ≤ℤ a
no_less a b t e h =
    let is : is_lt (int_cmp a b) ≡ false = sym e ∙ h in
    by_ranked (a <ℤ b) (a ≡ b) (b <ℤ a) (int_cmp a b) (int_ranks a b) (λ o m. absurd (true≢false (sym (ap is_lt o) ∙ is)))
    (λ o m. omega (arith, signed_arith)) (λ o m. omega (arith, signed_arith))

pub returns-then-lt : goal.returns-then-lt
returns-then-lt c = (
  refl,
  refl,
  (
    _,
    _,
    c.in-Some.ensures,
    c.in-Some-instant_of.ensures,
    less c.in-Some-instant_of.last.nanosecond c.in-Some.first.nanosecond c.lt.result c.lt.ensures c.if-lt.true,
  ),
)

pub returns : goal.returns
returns c = (
  c.in-Some.ensures,
  c.in-Some-instant_of.ensures,
  no_less c.in-Some-instant_of.last.nanosecond c.in-Some.first.nanosecond c.lt.result c.lt.ensures c.if-lt.false,
)

pub returns-in_default-instant_of : goal.returns-in_default-instant_of
returns-in_default-instant_of c = inr (_, c.in-Some.ensures, refl, c.in_default-instant_of.ensures)

pub returns-in_default : goal.returns-in_default
returns-in_default c = inl (refl, c.in_default.ensures)
