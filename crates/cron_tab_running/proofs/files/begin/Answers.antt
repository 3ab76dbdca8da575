use Rattle.std.proofs.lemmas.Result.{err_from_is_err_and}
use Rattle.cron_tab_running.specs.Loading.{nothing}
use Rattle.cron_tab_running.proofs.files.begin.Goals as goal

pub returns-in_err-counts-clause-err : goal.returns-in_err-counts-clause-err
returns-in_err-counts-clause-err c =
    let (e, is, same) = err_from_is_err_and c.from_residual.result c.from_residual.ensures.1 in
    rw is (nothing, rw same tt)

pub returns-in_err-told-clause-err : goal.returns-in_err-told-clause-err
returns-in_err-told-clause-err c =
    let (e, is, same) = err_from_is_err_and c.from_residual-in_err-told.result c.from_residual-in_err-told.ensures.1 in
    rw is (nothing, rw same tt)
