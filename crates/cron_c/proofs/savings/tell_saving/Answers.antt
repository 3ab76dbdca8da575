use Rattle.std.proofs.Common.{◌≡◌, ◌<◌, ◌↔◌, ℕ, true, List, drop, length, length-drop, arith, ap, refl, subst, ◌∙◌}
use Rattle.std.proofs.lemmas.List.{take_rest}
use Rattle.cron_c.specs.Savings.{TellSaving, TypesTellSaving, end_of_block}
use Rattle.cron_c.proofs.savings.tell_saving.Goals as goal

-- bytes that are no header have no types
short_tells : (size : ℕ) (s : List ℕ) → length s < 44 → TypesTellSaving size s
short_tells size s short = λ long i flag below get. absurd (omega (short, long, arith))

short_rest : (size : ℕ) (s : List ℕ) (at : ℕ) → length s < 44 → TypesTellSaving size (drop at s)
short_rest size s at short = short_tells size (drop at s) (grind (arith, length-drop))

past : (size : ℕ) (s : List ℕ) (at end : ℕ) → at ≡ end → length s < at → TypesTellSaving size (drop end s)
past size s at end e short = short_tells size (drop end s) (grind (arith, length-drop))

short_too : (s : List ℕ) → length s < 44 → TellSaving s
short_too s short = (λ first. short_tells 4 s short, λ later. short_rest 8 s (end_of_block s) short)

pub returns-then-bytes-lt-HEADER : goal.returns-then-bytes-lt-HEADER
returns-then-bytes-lt-HEADER c = (λ is. short_too c.args.bytes.now c.if-bytes-lt-HEADER.true, λ told. refl)

pub returns-then-bytes-eq0 : goal.returns-then-bytes-eq0
returns-then-bytes-eq0 c = (
  λ is. (λ first. c.types_tell_saving.ensures.0 is, λ later. absurd (later c.if-bytes-eq0.true)),
  λ told. c.types_tell_saving.ensures.1 (told.0 c.if-bytes-eq0.true),
)

pub returns-then-bytes-end : goal.returns-then-bytes-end
returns-then-bytes-end c = (
  λ is. (
    λ first. absurd (c.if-bytes-eq0.false first),
    λ later. past 8 c.args.bytes.now c.block_end-end.result (end_of_block c.args.bytes.now) c.block_end-end.ensures c.if-bytes-end.true,
  ),
  λ told. refl,
)

pub returns : goal.returns
returns c =
    let rest = ap (λ (end : ℕ). drop end c.args.bytes.now) c.block_end-end.ensures in
    let same = subst (λ (s : List ℕ). (c.types_tell_saving-2.result ≡ true) ↔ TypesTellSaving 8 s)
    (take_rest c.args.bytes.now c.block_end-end.result ∙ rest) c.types_tell_saving-2.ensures in (
      λ is. (λ first. absurd (c.if-bytes-eq0.false first), λ later. same.0 is),
      λ told. same.1 (told.1 c.if-bytes-eq0.false),
    )
