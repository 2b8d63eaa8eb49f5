-- The words that ask for a page, and the pages.
use Rattle.std.specs.Prelude.{if◌then◌else◌, ◌||◌, Bool, ℕ, List, [], ◌∷◌, Option, Some, None, codes}
use Rattle.std.specs.List.{list_any}
use Rattle.std.specs.Str.{bytes_eq}
use Rattle.clap.specs.Words.{Text}
use Rattle.rpz_words.specs.declared.pages.Page.{Page}
use Rattle.rpz_words.specs.declared.pages.Page.TheVariants.{Commands, Replay, Serve, Load, Version}
use Rattle.rpz_words.specs.declared.pages.TheConstants.{COMMANDS_PAGE, LOAD_PAGE, REPLAY_PAGE, SERVE_PAGE, VERSION_PAGE}

-- what a page says
abbrev pub page_text : Page → List ℕ
page_text Commands = COMMANDS_PAGE.now
page_text Replay = REPLAY_PAGE.now
page_text Serve = SERVE_PAGE.now
page_text Load = LOAD_PAGE.now
page_text Version = VERSION_PAGE.now

-- `--help` or `-h`
abbrev pub is_help : Text → Bool
is_help word = bytes_eq word (codes "--help") || bytes_eq word (codes "-h")

-- `--version` or `-V`
abbrev pub is_version : Text → Bool
is_version word = bytes_eq word (codes "--version") || bytes_eq word (codes "-V")

-- the page of the command of this name, if there is one; that of `help` shows all commands
abbrev pub command_page : Text → Option Page
command_page name =
    if bytes_eq name (codes "help") then Some Commands
    else (if bytes_eq name (codes "replay") then Some Replay
    else (if bytes_eq name (codes "serve") then Some Serve
    else (if bytes_eq name (codes "load") then Some Load else None)))

-- the page that `help` shows of these names
abbrev pub help_page : List Text → Option Page
help_page [] = Some Commands
help_page (name ∷ []) = command_page name
help_page (name ∷ other ∷ names) = None

-- the page that words ask for, by the first word and those behind it
abbrev pub page_by : Text → List Text → Option Page
page_by first rest =
    if is_help first then Some Commands
    else (if is_version first then Some Version
    else (if list_any is_help rest then command_page first
    else (if bytes_eq first (codes "help") then help_page rest else None)))

-- The page that words ask for behind the program's name, if they do: `--help` or `--version`, a command with `--help` behind it, or
-- `help`, alone or with the name of a command.
abbrev pub page_of : List Text → Option Page
page_of [] = None
page_of (first ∷ rest) = page_by first rest
