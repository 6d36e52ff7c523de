-- The words of printed lines: names, claims, kinds of events, and what blocks a route.
use Rattle.std.specs.Prelude.{ℕ, List, [], ◌∷◌, ◌++◌, map, codes, slice_get, Option, Some, None}
use Rattle.std.specs.Fmt.{decimal}
use Rattle.std.specs.List.{flat_map}
use Rattle.std.specs.Option.{unwrap_or}
use Rattle.fleet_base.specs.declared.answers.Block.{Block}
use Rattle.fleet_base.specs.declared.numbers.CellNo.{CellNo}
use Rattle.fleet_base.specs.declared.numbers.ClaimNo.{ClaimNo}
use Rattle.fleet_base.specs.declared.numbers.Kind.{Kind}
use Rattle.fleet_base.specs.declared.numbers.Kind.TheVariants.{Acquire, Move, Release}
use Rattle.fleet_base.specs.declared.numbers.RobotNo.{RobotNo}
use Rattle.fleet_names.specs.Names.{Named, name_of}
use Rattle.fleet_names.specs.declared.thing.Thing.{Thing}
use Rattle.fleet_names.specs.declared.thing.Thing.TheVariants as thing
use Rattle.site_map.specs.Built.{BuiltSite}
use Rattle.site_map.specs.Claims.{names_of}
use Rattle.site_map.specs.declared.names.ClaimName.{ClaimName}
use Rattle.site_map.specs.declared.names.ClaimName.TheVariants as claim_name

-- words, each with a space before it
abbrev pub behind : List (List ℕ) → List ℕ
behind words = flat_map (λ word. 32 ∷ word) words

-- words with one space between them
abbrev pub spaced : List (List ℕ) → List ℕ
spaced [] = []
spaced (word ∷ words) = word ++ behind words

-- lines, each with a line feed behind it
abbrev pub lines_text : List (List ℕ) → List ℕ
lines_text lines = flat_map (λ line. line ++ 10 ∷ []) lines

-- the name of a thing; no bytes where it has none
unfoldable pub name_text : Named → Thing → List ℕ
name_text names thing = unwrap_or (name_of names thing) []

-- the name of a cell, and of a robot
abbrev pub cell_text : Named → CellNo → List ℕ
cell_text names cell = name_text names (thing.Cell cell.0)

abbrev pub robot_text : Named → RobotNo → List ℕ
robot_text names robot = name_text names (thing.Robot robot.0)

-- a colon and the number of a flow; nothing for a crossing without flows
abbrev pub flow_text : Option ℕ → List ℕ
flow_text None = []
flow_text (Some flow) = codes ":" ++ decimal flow

-- what a claim is a claim of
abbrev pub claim_name_text : Named → ClaimName → List ℕ
claim_name_text names (claim_name.Cell cell) = cell_text names cell
claim_name_text names (claim_name.Crossing crossing flow) = name_text names (thing.Crossing crossing) ++ flow_text flow

-- the same, and no bytes for no claim
abbrev pub known_claim_text : Named → Option ClaimName → List ℕ
known_claim_text names None = []
known_claim_text names (Some name) = claim_name_text names name

-- how a claim of the site is written; no bytes for no claim of it
unfoldable pub claim_text : Named → BuiltSite → ClaimNo → List ℕ
claim_text names site claim = known_claim_text names (slice_get (names_of site) claim.0)

-- what a robot does in one event
abbrev pub kind_words : Named → BuiltSite → Kind → List (List ℕ)
kind_words names site (Acquire claim) = codes "acquire" ∷ claim_text names site claim ∷ []
kind_words names site (Move from to) = codes "move" ∷ cell_text names from ∷ cell_text names to ∷ []
kind_words names site (Release claim) = codes "release" ∷ claim_text names site claim ∷ []

-- a cycle of deferrals; no words where there is none
abbrev pub cycle_words : Named → List RobotNo → List (List ℕ)
cycle_words names [] = []
cycle_words names (r ∷ rs) = codes "cycle" ∷ map (robot_text names) (r ∷ rs)

-- what blocks a route: the claim, the robot that keeps it, and the cycle
abbrev pub block_words : Named → BuiltSite → Block → List (List ℕ)
block_words names site block = claim_text names site block.claim ∷ robot_text names block.by ∷ cycle_words names block.cycle
