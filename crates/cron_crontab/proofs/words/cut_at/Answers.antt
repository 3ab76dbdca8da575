use Rattle.std.proofs.Common.{◌≡◌, ◌+◌, ◌-◌, ◌∙◌, take, drop, length, ap, arith}
use Rattle.std.specs.Prelude.{not, ◌==◌}
use Rattle.std.specs.List.{position_or_len}
use Rattle.std.proofs.lemmas.List.Sums.{prefix_len-le-length}
use Rattle.cron_crontab.proofs.WordLemmas.{one_piece, first_piece, boundary-mark, boundary-behind}
use Rattle.cron_crontab.proofs.words.cut_at.Goals as goal

pub returns-then-end-text-clause-pieces : goal.returns-then-end-text-clause-pieces
returns-then-end-text-clause-pieces c =
    let is = rw c.as_bytes.ensures.value at c.mark_at-end.ensures in
    let le = prefix_len-le-length (λ b. not (b == c.args.mark)) c.args.text.now in
    let all : position_or_len (λ b. b == c.args.mark) c.args.text.now ≡ length c.args.text.now = omega arith in
    one_piece c.args.mark c.args.text.now all

pub range-requires-clause-end_boundary : goal.range-requires-clause-end_boundary
range-requires-clause-end_boundary c =
    let is = rw c.as_bytes.ensures.value at c.mark_at-end.ensures in
    boundary-mark c.args.mark c.args.text.now c.mark_at-end.result c.requires is (omega arith)

pub range_from-requires : goal.range_from-requires
range_from-requires c =
    let is = rw c.as_bytes.ensures.value at c.mark_at-end.ensures in
    λ some. boundary-behind c.args.mark c.args.text.now c.mark_at-end.result c.requires c.utf8.text is (omega arith)

pub returns-clause-pieces : goal.returns-clause-pieces
returns-clause-pieces c =
    let is = rw c.as_bytes.ensures.value at c.mark_at-end.ensures in
    let end : c.mark_at-end.result - 0 ≡ c.mark_at-end.result = omega arith in
    first_piece c.args.mark c.args.text.now c.range.result.now c.range_from.result.now (c.range.ensures.value ∙ ap (λ k. take k c.args.text.now) (end ∙ is))
    (c.range_from.ensures.value ∙ ap (λ k. drop (k + 1) c.args.text.now) is) (omega arith)
