use Rattle.std.proofs.Common.{◌≡◌, pos, unsigned_abs, to_z, of_z, w64, Option, Some, None, refl, arith, sym}
use Rattle.std.specs.Option.{IfSome}
use Rattle.jiff_core.proofs.SignedLemmas.{signed_casts}
use Rattle.cron_clocks.proofs.RuleAgreement.{apart_agree}
use Rattle.cron_clocks.proofs.SeasonLemmas.{kept_of}
use Rattle.cron_clocks.proofs.clock.keeping_by_rule.Goals as goal

always : {A P : Type 0} → P → (o : Option A) → IfSome o (λ _. P)
always h None = tt
always h (Some x) = h

pub returns-clause-agree : goal.returns-clause-agree
returns-clause-agree c =
    rw (sym c.to_plain.ensures, c.in-Posix.is) (apart_agree c.in-Posix.rule c.in_ok-dst.dst c.in_ok-dst.was c.in_ok-season.ensures.apart)

pub returns-clause-kept : goal.returns-clause-kept
returns-clause-kept c =
    let low = c.if-second-lt0.false in
    let high = c.if-second-ge-SECONDS.false in
    let season = c.in-Some.season in
    let same : pos (unsigned_abs (to_z w64 (of_z w64 c.args.second))) ≡ c.args.second = omega (arith, signed_casts) in
    let kept = kept_of c.in-Posix.rule _ (unsigned_abs (to_z w64 (of_z w64 c.args.second))) season.first season.end season.offset refl
    (rw c.in-Some.is at c.in_ok-season.ensures.season) in
    rw (sym c.to_plain.ensures, c.in-Posix.is) (rw same at kept)

pub returns-in_default-2-clause-agree : goal.returns-in_default-2-clause-agree
returns-in_default-2-clause-agree c =
    rw (sym c.to_plain.ensures, c.in-Posix.is)
    (always (apart_agree c.in-Posix.rule c.in_ok-dst.dst c.in_ok-dst.was c.in_ok-season.ensures.apart) c.keeping_by_transitions.result)
