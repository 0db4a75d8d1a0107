-- Where the files of a folder lie.
use Rattle.std.specs.Prelude.{◌≡◌, ◌≢◌, ◌++◌, [], ℕ, List, codes}
use Rattle.std.specs.List.{AllByRecursion}

-- a file's name within a folder: not empty, without a slash, and neither the folder itself nor the one above it
pub record IsFileName (name : List ℕ) : Type 0 where
  pub some : name ≢ []
  pub below : name ≢ codes "."
  pub within : name ≢ codes ".."
  pub flat : AllByRecursion (λ byte. byte ≢ 47) name

-- the path of that file of the folder
abbrev pub path_in : List ℕ → List ℕ → List ℕ
path_in folder name = folder ++ (codes "/" ++ name)

-- the path leads to a file right in the folder
abbrev pub IsInFolder : List ℕ → List ℕ → Type 0
IsInFolder folder path = (name : List ℕ) × IsFileName name × (path ≡ path_in folder name)

-- the name of the file that a text is written to before it takes its place
abbrev pub name_beside : List ℕ → List ℕ
name_beside name = codes ".new-" ++ name
