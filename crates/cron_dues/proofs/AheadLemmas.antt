-- The due fire that comes next, and what is known after it.
use Rattle.std.proofs.Common.{◌≡◌, Bool, ℕ, ◌-◌, ◌≤◌, ◌<◌, ℤ, pos, ◌+ℤ◌, ◌-ℤ◌, ◌≤ℤ◌, ◌<ℤ◌, Some, inl, inr, refl, sym, subst, arith}
use Rattle.std.proofs.lemmas.Int.{by_lt_z}
use Rattle.jiff_core.proofs.SignedLemmas.{signed_arith}
use Rattle.cron_units.specs.Nearest.{IsNearestAt}
use Rattle.cron_time.specs.Seconds.{Seconds, is_match}
use Rattle.cron_units.specs.declared.way.Way.{Way}
use Rattle.cron_units.specs.declared.way.Way.TheVariants.{Ahead}
use Rattle.cron_moments.specs.Civil.{seconds_in_range}
use Rattle.cron_dues.specs.Clock.Due.{CanBeDue, Clock, Due, due, due_instant, shows}
use Rattle.cron_dues.specs.Known.{AreDueFrom, IsNextDue}
use Rattle.cron_dues.specs.Nearest.{IsNearestDue}
use Rattle.cron_dues.specs.Reached.{IsAhead}
use Rattle.cron_dues.specs.declared.ahead.Known.{Known}
use Rattle.cron_dues.specs.declared.steady.Steady.{Steady}
use Rattle.cron_clocks.proofs.Windows.{le_no}
use Rattle.cron_dues.proofs.DueLemmas.{as_natural, clock_near, due_is, due_near}
use Rattle.cron_dues.proofs.WayLemmas.{ahead_on, fire_is}

pub nearest_is : (way : Way) (test : ℕ → Bool) (clock : Clock) (from : ℤ) (c : ℕ) (d : Due) → IsNearestAt way test from c → d ≡ due clock c
    → IsNearestDue way test clock from (Some d)
nearest_is way test clock from c d near own =
    subst (λ (e : Due). IsNearestDue way test clock from (Some e)) (sym own) (record { nearest = near; own = refl })

-- among the instants of a span each civil second is due when the clock shows it, or at the first of them
pub due_in_span : (clock : Clock) (c : ℕ) (from : ℤ) (steady : Steady) (known : Known) → c < seconds_in_range → IsAhead clock c from steady
    → known.offset ≡ steady.offset → ((k : ℕ) → known.first ≤ k → k < 4_294_967_295 → (from +ℤ steady.offset.seconds) ≤ℤ pos k)
    → ((k : ℕ) → k < known.first → pos k <ℤ (from +ℤ steady.offset.seconds))
    → ((k : ℕ) → k < known.end → pos k <ℤ (steady.end +ℤ steady.offset.seconds)) → known.first ≤ 4_294_967_295 → known.end ≤ 4_294_967_295
    → AreDueFrom clock (pos c) known
due_in_span clock c from steady known range ahead offset low high end most last k on less =
    let near = ahead.high in
    let offset_near = steady.offset.in_range in
    let short = end k less in
    let on_there : c ≤ k = omega (arith, signed_arith) in
    by_lt_z (pos k) (pos known.first)
    (λ gt. let before = high (known.first - 1) (omega (arith, signed_arith)) in
    let begun = low known.first (omega arith) (omega (arith, signed_arith, near, offset_near.1)) in
    let past : pos (known.first - k) ≡ from +ℤ steady.offset.seconds -ℤ pos k = omega (arith, signed_arith) in
    rw offset (sym (fire_is clock k (known.first - k) from steady (ahead_on clock c k from steady on_there ahead)
    (le_no (steady.end +ℤ steady.offset.seconds) (pos k) (omega (arith, signed_arith))) (omega (arith, signed_arith)) (inl past))))
    (λ le. let begun = low k (omega (arith, signed_arith)) (omega arith) in
    let past : known.first - k ≡ 0 = omega (arith, signed_arith) in
    rw (offset, past) (sym (fire_is clock k 0 from steady (ahead_on clock c k from steady on_there ahead)
    (le_no (steady.end +ℤ steady.offset.seconds) (pos k) (omega (arith, signed_arith))) (omega (arith, signed_arith)) (inr refl))))

-- what is shown at a due instant can be
pub due_can_be : (clock : Clock) (c : ℕ) → c < seconds_in_range → CanBeDue (due clock c)
due_can_be clock c range =
    let near = due_near clock c in
    let shown = clock_near clock (due_instant clock c) in
    let there = (due_is clock c).reached in
    let past = as_natural (shows clock (due_instant clock c) -ℤ pos c) (omega (arith, signed_arith)) in
    (range, omega (arith, signed_arith, near.1, shown.1))

pub next_is : (s : Seconds) (clock : Clock) (from : ℤ) (c : ℕ) (d : Due) (known : Known) → IsNearestAt Ahead (is_match s) from c
    → d ≡ due clock c → AreDueFrom clock (pos c) known → IsNextDue s clock from (Some d) known
next_is s clock from c d known near own h =
    subst (λ (e : Due). IsNextDue s clock from (Some e) known) (sym own)
    (record {
      nearest = nearest_is Ahead (is_match s) clock from c (due clock c) near refl;
      after = (
        λ k on less. h k (omega (arith, signed_arith)) less,
        inr (record { second = c; matching = near.passes; next = refl }),
      );
    })

-- nothing is known up to 0
pub due_before_none : (clock : Clock) (from : ℤ) (known : Known) → known.end ≡ 0 → AreDueFrom clock from known
due_before_none clock from known none k on less = absurd (omega arith)
