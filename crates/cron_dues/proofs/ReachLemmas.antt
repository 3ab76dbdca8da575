-- The greatest second that a clock has shown.
use Rattle.std.proofs.Common.{◌≡◌, ℕ, Option, Some, None, ◌⊎◌, inl, inr, ◌<◌, ℤ, pos, ◌+ℤ◌, ◌-ℤ◌, ◌≤ℤ◌, ◌<ℤ◌, arith}
use Rattle.std.proofs.lemmas.Int.{by_lt_z}
use Rattle.jiff_core.proofs.SignedLemmas.{signed_arith}
use Rattle.cron_dues.specs.Clock.Due.{Clock, shows}
use Rattle.cron_dues.specs.Steady.{IsKept}
use Rattle.cron_dues.specs.Reached.{IsAhead, IsGathered, IsGreatestBy, IsShownBy, LeadsOn, left_to}
use Rattle.std.specs.Prelude.{IfSome}
use Rattle.cron_dues.specs.declared.steady.DueSpan.{DueSpan}
use Rattle.cron_dues.specs.declared.steady.Steady.{Steady}
use Rattle.cron_dues.proofs.DueLemmas.{as_natural, clock_near}
use Rattle.cron_dues.proofs.WayLemmas.{shown_in}

pub gather_from : (clock : Clock) (n from greatest : ℤ) (steady : Steady) → from ≡ n -ℤ pos 187_198 → greatest ≡ n -ℤ pos 93_600
    → IsKept clock from steady.end steady.offset.seconds → from <ℤ steady.end → IsGathered clock n from greatest steady
gather_from clock n from greatest steady e g kept later = record {
  most = λ k less. let near = clock_near clock k in omega (arith, signed_arith, near.1);
  reached = inl g;
  low = omega (arith, signed_arith);
  high = omega (arith, signed_arith);
  kept = kept;
  later = later;
  low_greatest = omega (arith, signed_arith);
  high_greatest = omega (arith, signed_arith);
}

-- the last instant before the end
last_shown : (clock : Clock) (from end o : ℤ) → IsKept clock from end o → from <ℤ end → shows clock (end -ℤ pos 1) ≡ end -ℤ pos 1 +ℤ o
last_shown clock from end o kept later = shown_in clock from end o (end -ℤ pos 1) kept (omega (arith, signed_arith)) (omega (arith, signed_arith))

reached_on : (clock : Clock) (n from greatest more : ℤ) (steady : Steady) → IsGathered clock n from greatest steady → steady.end ≤ℤ n
    → (more ≡ greatest) ⊎ (more ≡ steady.end -ℤ pos 1 +ℤ steady.offset.seconds) → (more ≡ n -ℤ pos 93_600) ⊎ IsShownBy clock n more
reached_on clock n from greatest more steady so_far le (inl e) = rw e so_far.reached
reached_on clock n from greatest more steady so_far le (inr e) =
    let shown = last_shown clock from steady.end steady.offset.seconds so_far.kept so_far.later in
    inr (record { at = steady.end -ℤ pos 1; by = omega (arith, signed_arith); shown = omega (arith, signed_arith) })

high_on : (n greatest more last : ℤ) → (more ≡ greatest) ⊎ (more ≡ last) → greatest ≤ℤ (n +ℤ pos 93_600) → last ≤ℤ (n +ℤ pos 93_600) → more ≤ℤ (n +ℤ pos 93_600)
high_on n greatest more last (inl e) one other = omega (arith, signed_arith)
high_on n greatest more last (inr e) one other = omega (arith, signed_arith)

pub gather_on : (clock : Clock) (n from greatest more : ℤ) (steady next : Steady) → IsGathered clock n from greatest steady → steady.end ≤ℤ n
    → greatest ≤ℤ more → (steady.end -ℤ pos 1 +ℤ steady.offset.seconds) ≤ℤ more
    → (more ≡ greatest) ⊎ (more ≡ steady.end -ℤ pos 1 +ℤ steady.offset.seconds)
    → IsKept clock steady.end next.end next.offset.seconds → steady.end <ℤ next.end → IsGathered clock n steady.end more next
gather_on clock n from greatest more steady next so_far le one other either kept later =
    let low = so_far.low in
    let from_less = so_far.later in
    let low_greatest = so_far.low_greatest in
    let high_greatest = so_far.high_greatest in
    let near = steady.offset.in_range in
    record {
      most = λ k less.
          by_lt_z k from
          (λ before. let most = so_far.most k before in omega (arith, signed_arith))
          (λ ge. let shown = shown_in clock from steady.end steady.offset.seconds k so_far.kept ge less in omega (arith, signed_arith));
      reached = reached_on clock n from greatest more steady so_far le either;
      low = omega (arith, signed_arith);
      high = le;
      kept = kept;
      later = later;
      low_greatest = omega (arith, signed_arith);
      high_greatest = high_on n greatest more (steady.end -ℤ pos 1 +ℤ steady.offset.seconds) either high_greatest (omega (arith, signed_arith, near.1));
    }

shown_end : (clock : Clock) (n greatest result o : ℤ) → (greatest ≡ n -ℤ pos 93_600) ⊎ IsShownBy clock n greatest → shows clock n ≡ n +ℤ o
    → (n +ℤ o) ≤ℤ result → (result ≡ greatest) ⊎ (result ≡ n +ℤ o) → IsShownBy clock n result
shown_end clock n greatest result o reached now more (inr e) = record { at = n; by = omega (arith, signed_arith); shown = omega (arith, signed_arith) }
shown_end clock n greatest result o (inl low) now more (inl e) = let near = clock_near clock n in absurd (omega (arith, signed_arith, near.0))
shown_end clock n greatest result o (inr shown) now more (inl e) = rw e shown

pub gather_end : (clock : Clock) (n from greatest result : ℤ) (steady : Steady) → IsGathered clock n from greatest steady → n <ℤ steady.end
    → greatest ≤ℤ result → (n +ℤ steady.offset.seconds) ≤ℤ result → (result ≡ greatest) ⊎ (result ≡ n +ℤ steady.offset.seconds)
    → IsGreatestBy clock n result
gather_end clock n from greatest result steady so_far late one other either =
    let now = shown_in clock from steady.end steady.offset.seconds n so_far.kept so_far.high late in
    record {
      shown = shown_end clock n greatest result steady.offset.seconds so_far.reached now other either;
      greatest = λ k le.
          by_lt_z k from
          (λ before. let most = so_far.most k before in omega (arith, signed_arith))
          (λ ge. let shown = shown_in clock from steady.end steady.offset.seconds k so_far.kept ge (omega (arith, signed_arith)) in omega (arith, signed_arith));
    }

pub left_less : (n from end : ℤ) → from <ℤ end → end ≤ℤ n → left_to n end < left_to n from
left_less n from end less high =
    let one = as_natural (n +ℤ pos 1 -ℤ from) (omega (arith, signed_arith)) in
    let other = as_natural (n +ℤ pos 1 -ℤ end) (omega (arith, signed_arith)) in
    omega (arith, signed_arith)

-- what is later than all that is shown up to n is due from there on
pub leads_on : (clock : Clock) (n from greatest most : ℤ) (steady : Steady) → IsGathered clock n from greatest steady
    → greatest ≤ℤ most → (n +ℤ steady.offset.seconds) ≤ℤ most → (c : ℕ) → most <ℤ pos c → IsAhead clock c from steady
leads_on clock n from greatest most steady so_far one other c past =
    let high = so_far.high in
    let near = steady.offset.in_range in
    record {
      unreached = λ m less. let before = so_far.most m less in omega (arith, signed_arith);
      high = omega (arith, signed_arith, near.0);
      kept = so_far.kept;
      later = so_far.later;
    }

pub leads_to : (clock : Clock) (m : ℤ) (c : ℕ) (span : Option DueSpan) → LeadsOn clock m span → m <ℤ pos c
    → IfSome span (λ s. IsAhead clock c s.from s.steady)
leads_to clock m c None leads less = leads
leads_to clock m c (Some s) leads less = leads c less
