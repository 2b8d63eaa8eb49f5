-- Which page words ask for, and that one is shown only where they do.
use Rattle.std.proofs.Common.{◌≡◌, ap, refl, ◌∙◌, Bool, true, false, if◌then◌else◌, ◌||◌, List, [], ◌∷◌, Option, Some, None, Result, Ok, Err, codes, map, string_bytes}
use Rattle.std.specs.List.{list_any}
use Rattle.std.specs.Prelude.{String}
use Rattle.std.specs.Str.{bytes_eq}
use Rattle.std.specs.declared.alloc.Global.{Global}
use Rattle.clap.specs.Words.{Row, Text, subcommand_of}
use Rattle.dns_name.specs.Reading.{◌>>=◌}
use Rattle.rpz_words.specs.Pages.{command_page, help_page, is_help, is_version, page_by}
use Rattle.rpz_words.specs.Words.{argv, command_by, command_of, load_settings_of, rpz_app, settings_of}
use Rattle.rpz_words.specs.declared.command.Command.TheVariants.{Load, Replay, Serve, Show}
use Rattle.rpz_words.specs.declared.pages.Page.{Page}
use Rattle.rpz_words.specs.declared.pages.Page.TheVariants.{Commands, Version}
use Rattle.rpz_words.specs.declared.settings.LoadSettings.{LoadSettings}
use Rattle.rpz_words.specs.declared.settings.Settings.{Settings}
use Rattle.rpz_words.specs.declared.usage_cause.UsageCause.{UsageCause}
use Rattle.rpz_words.specs.declared.usage_cause.UsageCause.TheVariants.{Words}

by_name : (replay serve load : Bool) (settings : Result Settings UsageCause) (loads : Result LoadSettings UsageCause) (page : Page)
    → (if replay then Ok Replay else (if serve then (settings >>= λ s. Ok (Serve s)) else (if load then (loads >>= λ s. Ok (Load s)) else Err Words))) ≡ Ok (Show page) → ⊥
by_name true serve load settings loads page e = cc
by_name false true load (Err cause) loads page e = cc
by_name false true load (Ok s) loads page e = cc
by_name false false true settings (Err cause) page e = cc
by_name false false true settings (Ok s) page e = cc
by_name false false false settings loads page e = cc

by_command : (found : Option (Text × List Row)) (page : Page) → command_of found ≡ Ok (Show page) → ⊥
by_command None page e = cc
by_command (Some (name, rows)) page e = by_name (bytes_eq name (codes "replay")) (bytes_eq name (codes "serve")) (bytes_eq name (codes "load")) (settings_of rows) (load_settings_of rows) page e

pub asked_page : (asked : Option Page) (words : List (String Global)) (page : Page) → command_by asked words ≡ Ok (Show page) → asked ≡ Some page
asked_page (Some other) words page e = cc
asked_page None words page e = absurd (by_command (subcommand_of rpz_app (argv words)) page e)

any_mapped : (words : List (String Global)) → list_any (λ word. is_help (string_bytes word)) words ≡ list_any is_help (map string_bytes words)
any_mapped [] = refl
any_mapped (word ∷ words) = ap (λ rest. is_help (string_bytes word) || rest) (any_mapped words)

picked : (help version among named : Bool) (command names : Option Page) → help ≡ false → version ≡ false
    → (if among then command else (if named then names else None)) ≡ (if help then Some Commands else (if version then Some Version else (if among then command else (if named then names else None))))
picked true version among named command names h v = absurd cc
picked false true among named command names h v = absurd cc
picked false false among named command names h v = refl

-- the page where neither `--help` nor `--version` is the first word
pub by_rest : (first : Text) (rest : List (String Global)) (among : Bool) (command : Option Page) → is_help first ≡ false → is_version first ≡ false → among ≡ list_any (λ word. is_help (string_bytes word)) rest
    → command ≡ command_page first → (if among then command else (if bytes_eq first (codes "help") then help_page (map string_bytes rest) else None)) ≡ page_by first (map string_bytes rest)
by_rest first rest among command h v a c =
    ap (λ (b : Bool). if b then command else (if bytes_eq first (codes "help") then help_page (map string_bytes rest) else None)) (a ∙ any_mapped rest)
    ∙ ap (λ (page : Option Page). if list_any is_help (map string_bytes rest) then page else (if bytes_eq first (codes "help") then help_page (map string_bytes rest) else None)) c
    ∙ picked (is_help first) (is_version first) (list_any is_help (map string_bytes rest)) (bytes_eq first (codes "help")) (command_page first) (help_page (map string_bytes rest)) h v

when_asked : (among : Bool) (page other : Option Page) → among ≡ true → page ≡ (if among then page else other)
when_asked true page other a = refl
when_asked false page other a = absurd cc

when_named : (among named : Bool) (page command : Option Page) → among ≡ false → named ≡ true → page ≡ (if among then command else (if named then page else None))
when_named true named page command a n = absurd cc
when_named false true page command a n = refl
when_named false false page command a n = absurd cc

when_other : (among named : Bool) (names command : Option Page) → among ≡ false → named ≡ false → (let none : Option Page = None in none ≡ (if among then command else (if named then names else None)))
when_other true named names command a n = absurd cc
when_other false true names command a n = absurd cc
when_other false false names command a n = refl

pub by_command_page : (first : Text) (rest : List (String Global)) (among : Bool) (page : Option Page) → is_help first ≡ false → is_version first ≡ false → among ≡ list_any (λ word. is_help (string_bytes word)) rest → among ≡ true
    → page ≡ command_page first → page ≡ page_by first (map string_bytes rest)
by_command_page first rest among page h v a is p =
    when_asked among page (if bytes_eq first (codes "help") then help_page (map string_bytes rest) else None) is ∙ by_rest first rest among page h v a p

pub by_help_page : (first : Text) (rest : List (String Global)) (among : Bool) (page : Option Page) → is_help first ≡ false → is_version first ≡ false → among ≡ list_any (λ word. is_help (string_bytes word)) rest → among ≡ false
    → bytes_eq first (codes "help") ≡ true → page ≡ help_page (map string_bytes rest) → page ≡ page_by first (map string_bytes rest)
by_help_page first rest among page h v a is named p =
    p ∙ when_named among (bytes_eq first (codes "help")) (help_page (map string_bytes rest)) (command_page first) is named ∙ by_rest first rest among (command_page first) h v a refl

pub by_no_page : (first : Text) (rest : List (String Global)) (among : Bool) → is_help first ≡ false → is_version first ≡ false → among ≡ list_any (λ word. is_help (string_bytes word)) rest → among ≡ false
    → bytes_eq first (codes "help") ≡ false → (let none : Option Page = None in none ≡ page_by first (map string_bytes rest))
by_no_page first rest among h v a is named =
    when_other among (bytes_eq first (codes "help")) (help_page (map string_bytes rest)) (command_page first) is named ∙ by_rest first rest among (command_page first) h v a refl
