use Rattle.std.proofs.Common.{◌≡◌, ℕ, ◌+◌, cond, List, arith, ap, sym, ◌∙◌, subst}
use Rattle.std.specs.Str.{bytes_eq}
use Rattle.std.proofs.lemmas.Grind.{common_steps}
use Rattle.cron_tab_running.specs.Noted.{left_of}
use Rattle.cron_tab_running.proofs.CountLemmas.{Writes, counted, few, one_more, written}
use Rattle.cron_tab_running.proofs.noted.counts_of.Goals as goal

pub overflow_add-count : goal.overflow_add-count
overflow_add-count c =
    let at : left_of c.loop-entry.counts c.as_slice.result.now ≡ c.unwrap_or-count.result = grind (arith, common_steps) in
    let few = c.loop-entry.invariant.few c.as_slice.result.now in
    omega (arith, c.loop-entry-test.true)

pub loop-entry-preserved : goal.loop-entry-preserved
loop-entry-preserved c =
    let x = c.entry-item.result.items in
    let m = c.loop-entry.counts in
    let n = c.insert.new.self in
    let at : left_of m c.as_slice.result.now ≡ c.unwrap_or-count.result = grind (arith, common_steps) in
    let here : left_of m x ≡ c.unwrap_or-count.result = subst (λ bs. left_of m bs ≡ c.unwrap_or-count.result) c.as_slice.ensures.value at in
    let writes : Writes x m n (c.unwrap_or-count.result + 1) = subst (λ bs. Writes bs m n (c.unwrap_or-count.result + 1)) c.as_slice-in-loop-entry.ensures.value c.in_ok-insert.ensures.updates in
    let now : (e : List ℕ) → left_of n e ≡ cond (bytes_eq x e) (left_of m x + 1) (left_of m e) =
    λ e. written x m n (c.unwrap_or-count.result + 1) writes e ∙ ap (λ k. cond (bytes_eq x e) (k + 1) (left_of m e)) (sym here) in
    record {
      counted = λ e. counted x e m _ _ _ _ (now e) (one_more e c.args.entries.now c.loop-entry.entry-index c.entry-item.result c.loop-entry-test.true c.entry-item.is) (c.loop-entry.invariant.counted e);
      few = λ e. few x e m _ c.loop-entry.entry-index (now e) (c.loop-entry.invariant.few x) (c.loop-entry.invariant.few e);
    }
