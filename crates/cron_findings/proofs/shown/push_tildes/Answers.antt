use Rattle.std.proofs.Common.{◌<◌, ◌++◌, ◌∷◌, [], ap, sym, ◌∙◌, arith, append_assoc, length, map, take, get_or, ℕ, List}
use Rattle.std.proofs.lemmas.List.{map_more}
use Rattle.cron_findings.proofs.shown.push_tildes.Goals as goal

pub loop-column-preserved : goal.loop-column-preserved
loop-column-preserved c =
    let columns = c.args.columns.now in
    let within : c.loop-column.column-index < length columns = omega arith in
    c.in_ok-push.ensures.items
    ∙ (ap (λ (ts : List ℕ). ts ++ 126 ∷ []) c.loop-column.invariant
    ∙ (append_assoc c.args.text.now.items (map (λ _. 126) (take c.loop-column.column-index columns)) (126 ∷ [])
    ∙ ap (λ (ts : List ℕ). c.args.text.now.items ++ ts) (sym (map_more (λ _. 126) columns c.loop-column.column-index 0 within))))
