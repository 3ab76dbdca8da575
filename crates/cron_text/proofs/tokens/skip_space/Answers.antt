use Rattle.std.proofs.lemmas.Grind.{common_steps}
use Rattle.std.proofs.Common.{◌≡◌, true, false, nat_lt, get_or, length, drop, sym, ◌∙◌, arith, le_refl, rules}
use Rattle.cron_text.specs.Tokens.{tokens, is_space, after_gap}
use Rattle.cron_text.specs.Meaning.{trimmed_front}
use Rattle.cron_text.proofs.Places.{gap_more, front_further, front_here, front_end, end_of_gap}
use Rattle.cron_text.proofs.tokens.skip_space.Goals as goal

pub loop-at-preserved : goal.loop-at-preserved
loop-at-preserved c =
    let space : is_space (get_or c.args.text.now c.loop-at.at 0) ≡ true = sym c.is_space.ensures ∙ c.if-not-is_space.false in (
      gap_more c.args.text.now c.args.from c.loop-at.at _ (omega arith) c.loop-at-test.true space c.loop-at.invariant.0,
      front_further c.args.text.now c.loop-at.at _ c.loop-at-test.true space c.loop-at.invariant.1,
    )

pub returns-then-not-is_space-clause-trims : goal.returns-then-not-is_space-clause-trims
returns-then-not-is_space-clause-trims c =
    let space : is_space (get_or c.args.text.now c.loop-at.at 0) ≡ false = sym c.is_space.ensures ∙ c.if-not-is_space.true in
    front_here c.args.text.now c.loop-at.at _ c.loop-at-test.true space c.loop-at.invariant.1

-- where the loop ended, at the end of the text
rest_of : (c : goal.After-loop-at)
    → (tokens (drop c.args.from c.args.text.now) ≡ after_gap (nat_lt c.args.from (length c.args.text.now))
    (tokens (drop (length c.args.text.now) c.args.text.now)))
    × (trimmed_front (drop c.args.from c.args.text.now) ≡ trimmed_front (drop (length c.args.text.now) c.args.text.now))
rest_of c =
    let end : c.loop-at.at ≡ length c.args.text.now = omega (arith, c.loop-at-test.false, c.loop-at.auto.at-end, c.requires) in
    rw end at c.loop-at.invariant

pub returns-clause-same : goal.returns-clause-same
returns-clause-same c =
    let (gap, front) = rest_of c in
    end_of_gap c.args.text.now (length c.args.text.now) _ _ (le_refl (length c.args.text.now)) gap

pub returns-clause-trims : goal.returns-clause-trims
returns-clause-trims c =
    let (gap, front) = rest_of c in
    front_end c.args.text.now (length c.args.text.now) _ (le_refl (length c.args.text.now)) front

pub returns-then-not-is_space-clause-place : goal.returns-then-not-is_space-clause-place
returns-then-not-is_space-clause-place c = grind (arith, common_steps)

pub returns-then-not-is_space-clause-same : goal.returns-then-not-is_space-clause-same
returns-then-not-is_space-clause-same c = search rules

pub returns-then-not-is_space-clause-further : goal.returns-then-not-is_space-clause-further
returns-then-not-is_space-clause-further c = search rules

pub returns-clause-place : goal.returns-clause-place
returns-clause-place c = grind (arith, common_steps)

pub returns-clause-further : goal.returns-clause-further
returns-clause-further c = search rules
