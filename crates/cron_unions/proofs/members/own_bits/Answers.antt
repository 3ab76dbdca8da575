use Rattle.cron_unions.proofs.MemberLemmas.{bit_own_test}
use Rattle.cron_unions.proofs.members.own_bits.Goals as goal

pub returns : goal.returns
returns c = λ k. bit_own_test c.args.word c.args.other k c.ranges.other.fits
