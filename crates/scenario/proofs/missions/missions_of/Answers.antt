use Rattle.std.proofs.Common.{◌≡◌, ◌≤◌, not, cond, List, [], ◌∷◌, ◌++◌, length, map, Option, sym, ap, subst, ◌∙◌, append_assoc}
use Rattle.std.specs.Prelude.{All}
use Rattle.std.specs.Option.{unwrap_or}
use Rattle.std.proofs.lemmas.List.Elements.{All-head, All-tail, All-push}
use Rattle.site_map.specs.declared.goal.Goal.{Goal}
use Rattle.scenario.proofs.missions.missions_of.Goals as goal

pub loop-legs-preserved : goal.loop-legs-preserved
loop-legs-preserved c =
    let robots : List (List Goal) = c.loop-legs.robots.items in
    let rest : List (Option (List Goal)) = c.next.new.self.rest.items in
    let whole : c.loop-legs.legs-iterator.rest.items ≡ c.in-Some.legs ∷ rest = c.in-Some.ensures.steps.0 in
    let value : c.unwrap_or.result ≡ unwrap_or c.in-Some.legs [] = c.unwrap_or.ensures ∙ ap (λ d. unwrap_or c.in-Some.legs d) c.new.ensures in
    let items : c.push.new.self.items ≡ robots ++ unwrap_or c.in-Some.legs [] ∷ [] =
    c.push.ensures.items ∙ ap (λ b. cond b (robots ++ c.unwrap_or.result ∷ []) robots) (c.is_err.ensures.negation ∙ ap not c.if-is_err.false) ∙ ap (λ v. robots ++ v ∷ []) value in
    let left : All (λ (m : Option (List Goal)). length (unwrap_or m []) ≤ 64) (c.in-Some.legs ∷ rest) = subst (λ (ms : List (Option (List Goal))). All (λ (m : Option (List Goal)). length (unwrap_or m []) ≤ 64) ms) whole c.loop-legs.invariant.left in
    record {
      made = ap (λ rs. rs ++ map (λ m. unwrap_or m []) rest) items ∙ append_assoc robots (unwrap_or c.in-Some.legs [] ∷ []) (map (λ m. unwrap_or m []) rest)
          ∙ ap (λ (ms : List (Option (List Goal))). robots ++ map (λ m. unwrap_or m []) ms) (sym whole) ∙ c.loop-legs.invariant.made;
      left = All-tail (λ (m : Option (List Goal)). length (unwrap_or m []) ≤ 64) c.in-Some.legs rest left;
      few = subst (λ (rs : List (List Goal)). All (λ (legs : List Goal). length legs ≤ 64) rs) (sym items)
          (All-push (λ (legs : List Goal). length legs ≤ 64) robots (unwrap_or c.in-Some.legs []) c.loop-legs.invariant.few (All-head (λ (m : Option (List Goal)). length (unwrap_or m []) ≤ 64) c.in-Some.legs rest left));
    }
