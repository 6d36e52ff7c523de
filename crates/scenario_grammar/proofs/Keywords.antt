-- Which keyword a word is. The type of keywords can't be named outside the reader, so its tests stand for it.
use Rattle.std.proofs.Common.{◌≡◌, ⊎_elim, true, false, codes, None, refl, sym, subst}
use Rattle.std.specs.Str.{bytes_eq}
use Rattle.std.proofs.lemmas.Bool.{cases_Bool}
use Rattle.std.proofs.lemmas.Slice.Eq.{bytes_eq-Decides}
use Rattle.scenario_reader.specs.Keywords.{keyword_of}
use Rattle.scenario_grammar.specs.Grammar.{Word}

-- a word is one of the keywords, or none
pub data Kind : Word → Type 0 where
  CellWord : Kind (codes "cell")
  CrossingWord : Kind (codes "crossing")
  AreaWord : Kind (codes "area")
  FlowWord : Kind (codes "flow")
  LinkWord : Kind (codes "link")
  LaneWord : Kind (codes "lane")
  RobotWord : Kind (codes "robot")
  MissionWord : Kind (codes "mission")
  VisitWord : Kind (codes "visit")
  RepeatWord : Kind (codes "repeat")
  AgainWord : Kind (codes "again")
  DoneWord : Kind (codes "done")
  EndWord : Kind (codes "end")
  OtherWord : {word : Word} → keyword_of word ≡ None → Kind word

-- one keyword, or what is so where the word is another
either : (word keyword : Word) → Kind keyword → (bytes_eq word keyword ≡ false → Kind word) → Kind word
either word keyword is other = ⊎_elim (λ (same : bytes_eq word keyword ≡ true). subst Kind (sym ((bytes_eq-Decides word keyword).0 same)) is) other (cases_Bool (bytes_eq word keyword))

none_of : (word : Word) → bytes_eq word (codes "cell") ≡ false → bytes_eq word (codes "crossing") ≡ false → bytes_eq word (codes "area") ≡ false → bytes_eq word (codes "flow") ≡ false → bytes_eq word (codes "link") ≡ false → bytes_eq word (codes "lane") ≡ false → bytes_eq word (codes "robot") ≡ false → bytes_eq word (codes "mission") ≡ false → bytes_eq word (codes "visit") ≡ false → bytes_eq word (codes "repeat") ≡ false → bytes_eq word (codes "again") ≡ false → bytes_eq word (codes "done") ≡ false → bytes_eq word (codes "end") ≡ false → keyword_of word ≡ None
none_of word e0 e1 e2 e3 e4 e5 e6 e7 e8 e9 e10 e11 e12 = rw (e0, e1, e2, e3, e4, e5, e6, e7, e8, e9, e10, e11, e12) refl

pub kind_of : (word : Word) → Kind word
kind_of word =
    either word (codes "cell") Kind.CellWord (λ e0.
    either word (codes "crossing") Kind.CrossingWord (λ e1.
    either word (codes "area") Kind.AreaWord (λ e2.
    either word (codes "flow") Kind.FlowWord (λ e3.
    either word (codes "link") Kind.LinkWord (λ e4.
    either word (codes "lane") Kind.LaneWord (λ e5.
    either word (codes "robot") Kind.RobotWord (λ e6.
    either word (codes "mission") Kind.MissionWord (λ e7.
    either word (codes "visit") Kind.VisitWord (λ e8.
    either word (codes "repeat") Kind.RepeatWord (λ e9.
    either word (codes "again") Kind.AgainWord (λ e10.
    either word (codes "done") Kind.DoneWord (λ e11.
    either word (codes "end") Kind.EndWord (λ e12.
    Kind.OtherWord (none_of word e0 e1 e2 e3 e4 e5 e6 e7 e8 e9 e10 e11 e12))))))))))))))
