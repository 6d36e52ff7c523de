use Rattle.fleet_model.proofs.Room.{cut_both_owes, cut_owes, deferral_owes, drop_owes, merge_owes, report_owes, retry_owes}
use Rattle.fleet_model.proofs.table_laws.room_changes.Goals as goal

pub returns : goal.returns
returns c = record {
  merge = λ s r route good none. merge_owes s r route good none;
  pending_merge = λ s r route old good some. retry_owes s r route old good some;
  deferral = λ s r route good robot none. deferral_owes s r route good robot none;
  drop = λ s r old some. drop_owes s r old some;
  cut = λ s r good none. cut_owes s r good none;
  pending_cut = λ s r old good some. cut_both_owes s r old good some;
  report = λ s e good ready. report_owes s e good ready;
}
