-- The keywords of a scenario's lines.
use Rattle.std.specs.Prelude.{ℕ, List, [], ◌∷◌, codes, Option}
use Rattle.std.specs.Str.{bytes_eq}
use Rattle.fleet_model.specs.Lists.{first_some, when}
use Rattle.scenario_reader.specs.declared.keyword.Keyword.{Keyword}
use Rattle.scenario_reader.specs.declared.keyword.Keyword.TheVariants.{Site, Robot, Mission, Leg, Done, End}
use Rattle.scenario_reader.specs.declared.keyword.LegWord.TheVariants.{Visit, Repeat, Again}
use Rattle.scenario_reader.specs.declared.keyword.SiteWord.TheVariants.{Cell, Crossing, Area, Flow, Link, Lane}

-- the keyword of a site line, if the word is one
abbrev pub site_word : List ℕ → Option Keyword
site_word word = first_some (
    when (bytes_eq word (codes "cell")) (Site Cell)
    ∷ when (bytes_eq word (codes "crossing")) (Site Crossing)
    ∷ when (bytes_eq word (codes "area")) (Site Area)
    ∷ when (bytes_eq word (codes "flow")) (Site Flow)
    ∷ when (bytes_eq word (codes "link")) (Site Link)
    ∷ when (bytes_eq word (codes "lane")) (Site Lane)
    ∷ [])

-- the keyword of another line, if the word is one
abbrev pub other_word : List ℕ → Option Keyword
other_word word = first_some (
    when (bytes_eq word (codes "robot")) Robot
    ∷ when (bytes_eq word (codes "mission")) Mission
    ∷ when (bytes_eq word (codes "visit")) (Leg Visit)
    ∷ when (bytes_eq word (codes "repeat")) (Leg Repeat)
    ∷ when (bytes_eq word (codes "again")) (Leg Again)
    ∷ when (bytes_eq word (codes "done")) Done
    ∷ when (bytes_eq word (codes "end")) End
    ∷ [])

-- the keyword that a word is, if it is one; the header's word is none
abbrev pub keyword_of : List ℕ → Option Keyword
keyword_of word = first_some (site_word word ∷ other_word word ∷ [])
