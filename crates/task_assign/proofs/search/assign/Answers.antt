use Rattle.std.proofs.Common.{rules, ◌≡◌, sym, subst, length, arith}
use Rattle.std.proofs.lemmas.Result.{IfOk-weaker}
use Rattle.task_assign.specs.Assignments.{IsShown, IsAssignment}
use Rattle.task_assign.proofs.Finishing.{sliced, sliced_given, sliced_shown, sliced_assignment}
use Rattle.task_assign.proofs.search.assign.Goals as goal

pub given-requires : goal.given-requires
given-requires c =
    let long : length c.settle_all.new.pairing.columns ≡ 64 = search rules in
    let long_rows : length c.row_numbers-rows.result ≡ 64 = search rules in
    let long_columns : length c.column_numbers-columns.result ≡ 64 = search rules in
    let sized = c.size-size.ensures.sized in
    let some = c.size-size.ensures.some in
    let few = c.size-size.ensures.few in
    sliced_given c.args.costs.now c.place_all.new.numbers c.settle_all.new.pairing c.place_all.ensures.sound c.settle_all.ensures.placed c.greatest_rows-values.result c.row_numbers-rows.result c.column_numbers-columns.result (omega arith) (omega arith) c.greatest_rows-values.ensures.limits c.greatest_rows-values.ensures.stable c.size-size.result c.total_of-total.result sized c.row_numbers-rows.ensures c.column_numbers-columns.ensures long long_rows long_columns

pub returns-clause-found : goal.returns-clause-found
returns-clause-found c =
    let long : length c.settle_all.new.pairing.columns ≡ 64 = search rules in
    let long_rows : length c.row_numbers-rows.result ≡ 64 = search rules in
    let long_columns : length c.column_numbers-columns.result ≡ 64 = search rules in
    let sized = c.size-size.ensures.sized in
    let some = c.size-size.ensures.some in
    let few = c.size-size.ensures.few in
    let square = c.args.costs.now in
    let made = sliced c.size-size.result c.settle_all.new.pairing.columns c.row_numbers-rows.result c.column_numbers-columns.result c.total_of-total.result in
    IfOk-weaker c.given.result (λ found. found ≡ made) (λ found. IsAssignment square found)
    (λ found is. subst (λ m. IsAssignment square m) (sym is)
    (sliced_assignment square c.place_all.new.numbers c.settle_all.new.pairing c.place_all.ensures.sound c.settle_all.ensures.placed c.greatest_rows-values.result c.row_numbers-rows.result c.column_numbers-columns.result (omega arith) (omega arith) c.greatest_rows-values.ensures.limits c.greatest_rows-values.ensures.stable c.size-size.result c.total_of-total.result sized c.row_numbers-rows.ensures c.column_numbers-columns.ensures long long_rows long_columns
    c.total_of-total.ensures c.settle_all.ensures.least))
    c.given.ensures

pub returns-clause-shown : goal.returns-clause-shown
returns-clause-shown c =
    let long : length c.settle_all.new.pairing.columns ≡ 64 = search rules in
    let long_rows : length c.row_numbers-rows.result ≡ 64 = search rules in
    let long_columns : length c.column_numbers-columns.result ≡ 64 = search rules in
    let sized = c.size-size.ensures.sized in
    let some = c.size-size.ensures.some in
    let few = c.size-size.ensures.few in
    let square = c.args.costs.now in
    let made = sliced c.size-size.result c.settle_all.new.pairing.columns c.row_numbers-rows.result c.column_numbers-columns.result c.total_of-total.result in
    IfOk-weaker c.given.result (λ found. found ≡ made) (λ found. IsShown square found)
    (λ found is. subst (λ m. IsShown square m) (sym is)
    (sliced_shown square c.place_all.new.numbers c.settle_all.new.pairing c.place_all.ensures.sound c.settle_all.ensures.placed c.greatest_rows-values.result c.row_numbers-rows.result c.column_numbers-columns.result (omega arith) (omega arith) c.greatest_rows-values.ensures.limits c.greatest_rows-values.ensures.stable c.size-size.result c.total_of-total.result sized c.row_numbers-rows.ensures c.column_numbers-columns.ensures long long_rows long_columns
    c.total_of-total.ensures))
    c.given.ensures
