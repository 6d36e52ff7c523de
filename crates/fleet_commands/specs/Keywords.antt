-- The words that begin commands.
use Rattle.std.specs.Prelude.{ℕ, if◌then◌else◌, List, codes, Option, Some, None}
use Rattle.std.specs.Str.{bytes_eq}
use Rattle.fleet_commands.specs.declared.keyword.Keyword.{Keyword}
use Rattle.fleet_commands.specs.declared.keyword.Keyword.TheVariants.{Propose, Retry, Cancel, Withdraw, Replan, Report, Look}

-- the command that a word begins
abbrev pub keyword_of : List ℕ → Option Keyword
keyword_of word =
    if bytes_eq word (codes "propose") then Some Propose else (
    if bytes_eq word (codes "retry") then Some Retry else (
    if bytes_eq word (codes "cancel") then Some Cancel else (
    if bytes_eq word (codes "withdraw") then Some Withdraw else (
    if bytes_eq word (codes "replan") then Some Replan else (
    if bytes_eq word (codes "report") then Some Report else (
    if bytes_eq word (codes "look") then Some Look else None))))))
