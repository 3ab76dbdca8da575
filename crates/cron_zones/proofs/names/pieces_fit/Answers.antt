use Rattle.std.proofs.Common.{refl, sym, ◌∙◌, arith}
use Rattle.cron_zones.proofs.NameLemmas.{fits_on, fits_not, fits_all}
use Rattle.cron_zones.proofs.names.pieces_fit.Goals as goal

pub returns-then-not-stands_behind : goal.returns-then-not-stands_behind
returns-then-not-stands_behind c =
    fits_not c.args.name.now c.loop-byte.byte-index _ c.loop-byte.before c.loop-byte-test.true refl c.loop-byte.invariant
    (sym c.stands_behind.ensures ∙ c.if-not-stands_behind.true)

pub loop-byte-preserved : goal.loop-byte-preserved
loop-byte-preserved c =
    fits_on c.args.name.now c.loop-byte.byte-index _ c.loop-byte.before c.loop-byte-test.true refl c.loop-byte.invariant
    (sym c.stands_behind.ensures ∙ c.if-not-stands_behind.false)

pub returns : goal.returns
returns c = fits_all c.args.name.now c.loop-byte.byte-index c.loop-byte.before (omega arith) c.loop-byte.invariant
