use Rattle.std.proofs.Common.{◌≡◌, get_or, drop, arith}
use Rattle.cron_text.specs.Tokens.{tokens}
use Rattle.cron_text.proofs.Growing.{far_end, far_gap}
use Rattle.cron_text.proofs.Places.{none_at_end}
use Rattle.cron_text.proofs.Stars.{lone_star}
use Rattle.cron_text.proofs.symbols.lone_star_at.Goals as goal

pub returns-then-after-clause-star : goal.returns-then-after-clause-star
returns-then-after-clause-star c =
    let text = c.args.text.now in
    let after = c.skip_space-after.result in
    let seen : get_or text c.args.place.at 0 ≡ 42 = omega (arith, c.if-text-place-ne42.false) in
    lone_star text c.args.place after (omega arith) c.requires seen c.skip_space-after.ensures.same
    (λ u s wild. far_gap u s after.spaced (tokens (drop after.at text)) c.if-after.true wild)

pub returns-then-after-text-clause-star : goal.returns-then-after-text-clause-star
returns-then-after-text-clause-star c =
    let text = c.args.text.now in
    let after = c.skip_space-after.result in
    let seen : get_or text c.args.place.at 0 ≡ 42 = omega (arith, c.if-text-place-ne42.false) in
    lone_star text c.args.place after (omega arith) c.requires seen c.skip_space-after.ensures.same
    (λ u s wild. far_end u s _ (none_at_end text after.at after.spaced (omega arith)))
