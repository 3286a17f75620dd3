-- What was read of a project and a folder, and what a person asks for.
use Rattle.std.specs.Prelude.{ℕ, Bool, true, false, List, [], ◌∷◌, Option, None, map, option_map, string_bytes}
use Rattle.usfm_ref.specs.Keys.{KeyParts}
use Rattle.book_folder.specs.declared.seen.FoundFile.{FoundFile}
use Rattle.book_folder.specs.declared.seen.Named.{Named}
use Rattle.book_folder.specs.declared.seen.Seen.{Seen}
use Rattle.book_folder.specs.declared.seen.Wanted.{Wanted}
use Rattle.book_folder.specs.declared.seen.Wishes.{Wishes}

-- a plain file whose name may be that of a book's file: its name and its bytes
pub record FoundParts : Type 0 where
  pub name : List ℕ
  pub bytes : List ℕ

-- a plain file, as a contract sees it
abbrev pub found_view : FoundFile → FoundParts
found_view f = record { name = f.name.now; bytes = f.bytes.now }

-- a book with the name of its file
pub record NamedParts : Type 0 where
  pub book : List ℕ
  pub name : List ℕ

-- a book with the name of its file, as a contract sees it
abbrev pub named_view : Named → NamedParts
named_view n = record { book = n.book; name = string_bytes n.name }

-- what was read: the project, what the files were written from, and what is to be taken in
pub record SeenParts : Type 0 where
  pub project : List ℕ
  pub bases : List (List ℕ)
  pub next : Option (List ℕ)
  pub older : List (List ℕ)
  pub unplaced : List (List ℕ)
  pub names : List NamedParts
  pub files : List FoundParts
  pub others : List (List ℕ)
  pub bundles : List (List ℕ)

-- what was read, as a contract sees it
abbrev pub seen_view : Seen → SeenParts
seen_view s = record {
  project = s.project.now;
  bases = map (λ b. b.items) s.bases.now;
  next = option_map (λ b. b.now) s.next;
  older = map (λ b. b.items) s.older.now;
  unplaced = s.unplaced.now;
  names = map named_view s.names.now;
  files = map found_view s.files.now;
  others = map (λ name. name.now) s.others.now;
  bundles = map (λ b. b.items) s.bundles.now;
}

-- a segment of a book, or all of them where there is no key
pub record WantedParts : Type 0 where
  pub book : List ℕ
  pub key : Option KeyParts

-- a segment or a book that is wanted, as a contract sees it
abbrev pub wanted_view : Wanted → WantedParts
wanted_view w = record { book = w.book; key = w.key }

-- whether no segment is wanted
abbrev pub is_none_wanted : List WantedParts → Bool
is_none_wanted [] = true
is_none_wanted (w ∷ rest) = false

-- what a person asks for
pub record WishParts : Type 0 where
  pub emptied : Bool
  pub undone : Bool
  pub stale : Bool
  pub joined : Bool
  pub settled : List WantedParts
  pub form : Option (List ℕ)

-- what a person asks for, as a contract sees it
abbrev pub wishes_view : Wishes → WishParts
wishes_view w = record {
  emptied = w.emptied;
  undone = w.undone;
  stale = w.stale;
  joined = w.joined;
  settled = map wanted_view w.settled.items;
  form = option_map string_bytes w.form;
}

-- what a person asks for who asks for nothing
abbrev pub no_wishes : WishParts
no_wishes = record {
  emptied = false;
  undone = false;
  stale = false;
  joined = false;
  settled = [];
  form = None;
}
