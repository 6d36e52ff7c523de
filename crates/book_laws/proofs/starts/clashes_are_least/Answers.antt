use Rattle.site_map.specs.Claims.{site_of}
use Rattle.book_laws.proofs.Clashes.{cause_clash, cause_no_robot, cause_none, named_least, none_apart}
use Rattle.book_laws.proofs.starts.clashes_are_least.Goals as goal

pub returns : goal.returns
returns c =
    let site = site_of c.args.site.now in
    let is_site = c.cell_count-cells.ensures.site in
    record {
      none = λ starts. none_apart site is_site starts;
      named = λ starts one other claim. named_least site is_site starts one other claim;
      cause_none = λ starts. cause_none site is_site starts;
      cause_no_robot = λ starts. cause_no_robot site is_site starts;
      cause_clash = λ starts one other claim. cause_clash site is_site starts one other claim;
    }
