-- What serial runs and policy acts keep.
use Rattle.std.proofs.Common.{sym, subst, List, [], ◌∷◌, ◌++◌}
use Rattle.std.proofs.lemmas.List.{append-nil, append_assoc}
use Rattle.fleet_base.specs.declared.entries.Entry.{Entry}
use Rattle.fleet_model.specs.Sites.{IsSite}
use Rattle.fleet_model.specs.States.{State}
use Rattle.fleet_model.specs.Good.{IsGood}
use Rattle.fleet_model.specs.Journals.{IsJournal}
use Rattle.mission_model.specs.Stops.{Missions}
use Rattle.mission_model.specs.Runs.{IsNext, AreSerial, IsTrueEntry, AreTrue}
use Rattle.mission_model.proofs.PolicyCalls.{goes_on_is}

-- entries that are true behind each other are true together
pub true_more : (missions : Missions) (opening : State) (journal entries : List Entry) (entry : Entry) → AreTrue missions opening journal entries → IsTrueEntry missions opening (journal ++ entries) entry → AreTrue missions opening journal (entries ++ entry ∷ [])
true_more missions opening journal [] entry h t = (subst (λ j. IsTrueEntry missions opening j entry) (append-nil journal) t, tt)
true_more missions opening journal (x ∷ xs) entry h t =
    (h.0, true_more missions opening (journal ++ x ∷ []) xs entry h.1 (subst (λ j. IsTrueEntry missions opening j entry) (sym (append_assoc journal (x ∷ []) xs)) t))

-- a journal of true entries behind a journal that is true
pub true_join : (missions : Missions) (opening : State) (journal xs ys : List Entry) → AreTrue missions opening journal xs → AreTrue missions opening (journal ++ xs) ys → AreTrue missions opening journal (xs ++ ys)
true_join missions opening journal [] ys h t = subst (λ j. AreTrue missions opening j ys) (append-nil journal) t
true_join missions opening journal (x ∷ xs) ys h t =
    (h.0, true_join missions opening (journal ++ x ∷ []) xs ys h.1 (subst (λ j. AreTrue missions opening j ys) (sym (append_assoc journal (x ∷ []) xs)) t))

-- serial entries are legal and true to the missions
pub serial_true : (missions : Missions) (opening : State) (journal entries : List Entry) → IsSite opening.fleet.site → IsGood opening → IsJournal opening journal → AreSerial missions opening journal entries → IsJournal opening (journal ++ entries) × AreTrue missions opening journal entries
serial_true missions opening journal [] is_site good legal h = (subst (IsJournal opening) (sym (append-nil journal)) legal, tt)
serial_true missions opening journal (x ∷ xs) is_site good legal h =
    let g = goes_on_is missions opening journal x.robot.0 x is_site good legal h.0.goes in
    let rest = serial_true missions opening (journal ++ x ∷ []) xs is_site good g.legal h.1 in
    (subst (IsJournal opening) (append_assoc journal (x ∷ []) xs) rest.0, (g.mission, rest.1))

-- one more serial entry
pub serial_more : (missions : Missions) (opening : State) (journal entries : List Entry) (entry : Entry) → AreSerial missions opening journal entries → IsNext missions opening (journal ++ entries) entry → AreSerial missions opening journal (entries ++ entry ∷ [])
serial_more missions opening journal [] entry h t = (subst (λ j. IsNext missions opening j entry) (append-nil journal) t, tt)
serial_more missions opening journal (x ∷ xs) entry h t =
    (h.0, serial_more missions opening (journal ++ x ∷ []) xs entry h.1 (subst (λ j. IsNext missions opening j entry) (sym (append_assoc journal (x ∷ []) xs)) t))
