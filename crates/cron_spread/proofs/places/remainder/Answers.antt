use Rattle.std.proofs.Common.{◌≡◌, ◌+◌, ◌*◌, ◌%◌, ◌<◌, ℕ, arith, ap, get_or, length, sym, take, ◌∙◌}
use Rattle.std.proofs.lemmas.List.Sums.{fold_more}
use Rattle.std.proofs.lemmas.Nat.{mod_below}
use Rattle.cron_spread.specs.Places.{number_of}
use Rattle.cron_spread.proofs.RemainderLemmas.{one_digit}
use Rattle.cron_spread.proofs.places.remainder.Goals as goal

pub loop-byte-preserved : goal.loop-byte-preserved
loop-byte-preserved c =
    let bytes = c.args.bytes.now in
    let at = c.loop-byte.byte-index in
    let count = c.args.count in
    let within : at < length bytes = omega arith in
    let more : number_of (take (at + 1) bytes) ≡ number_of (take at bytes) * 256 + get_or bytes at 0 =
    fold_more (λ n byte. n * 256 + byte) 0 bytes at 0 within in
    rw (c.from.ensures, c.from-in-loop-byte.ensures, c.from-in-loop-byte-2.ensures, c.loop-byte.invariant.0)
    (one_digit (number_of (take at bytes)) (get_or bytes at 0) count ∙ sym (ap (λ (k : ℕ). k % count) more), mod_below _ count c.requires)
