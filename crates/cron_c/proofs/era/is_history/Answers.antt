use Rattle.std.proofs.Common.{◌≡◌, ◌+◌, ◌<◌, ℕ, Some, inl, inr, sym, ◌∙◌, arith, length, subst, refl}
use Rattle.std.specs.Prelude.{slice_get}
use Rattle.std.proofs.lemmas.Option.{slice_get-get_or, slice_get_within}
use Rattle.cron_c.proofs.Eras.{clash, in_order, not_in_order, last_or_before, zone_here}
use Rattle.cron_c.proofs.era.is_history.Goals as goal

pub returns-then-meets_next : goal.returns-then-meets_next
returns-then-meets_next c =
    (λ is. absurd (cc), λ history. absurd (not_in_order c.args.eras.now c.loop-at.at (sym c.meets_next.ensures ∙ c.if-meets_next.true) history))

pub returns-then-not-is_zone : goal.returns-then-not-is_zone
returns-then-not-is_zone c =
    let room : c.loop-at.at < length c.args.eras.now = omega (arith, c.loop-at-test.true) in (
      λ is. absurd (cc),
      λ history.
          absurd (clash c.is_zone.result
          (c.is_zone.ensures.1 (history.zones c.loop-at.at _ (slice_get-get_or c.args.eras.now c.loop-at.at _ room))) c.if-not-is_zone.true),
    )

pub loop-at-preserved : goal.loop-at-preserved
loop-at-preserved c =
    let apart = sym c.meets_next.ensures ∙ c.if-meets_next.false in
    let room : c.loop-at.at < length c.args.eras.now = omega (arith, c.loop-at-test.true) in (
      λ i e below get. elim (last_or_before i c.loop-at.at below) [
        | inl same ↦
            zone_here c.args.eras.now c.loop-at.at i _ e (slice_get-get_or c.args.eras.now c.loop-at.at _ room)
            (c.is_zone.ensures.0 c.if-not-is_zone.false) same get
        | inr before ↦ c.loop-at.invariant.0 i e before get
      ],
      λ i a b below here next. elim (last_or_before i c.loop-at.at below) [
        | inl same ↦ in_order c.args.eras.now c.loop-at.at a b apart (subst (λ (n : ℕ). slice_get c.args.eras.now n ≡ Some a) same here)
            (subst (λ (n : ℕ). slice_get c.args.eras.now (n + 1) ≡ Some b) same next)
        | inr before ↦ c.loop-at.invariant.1 i a b before here next
      ],
    )

pub returns : goal.returns
returns c = (
  λ is. record {
    zones = λ i e get. let within = slice_get_within c.args.eras.now i e get in c.loop-at.invariant.0 i e (omega (arith, c.loop-at-test.false)) get;
    order = λ i a b here next.
        let within = slice_get_within c.args.eras.now i a here in c.loop-at.invariant.1 i a b (omega (arith, c.loop-at-test.false)) here next;
  },
  λ history. refl,
)
