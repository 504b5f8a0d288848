-- The only page of a database that has no table yet, as SQLite's file format has it (https://sqlite.org/fileformat2.html, 1.3 and
-- 1.6). Each line is a field, with the place of its first byte.
use Rattle.std.specs.Prelude.{ℕ, ◌-◌, List, [], ◌∷◌, ◌++◌, codes, length, replicate}
use Rattle.std.specs.Int.{w8, w16, w32, to_be_bytes}

-- how many bytes a page has
abbrev pub page_size : ℕ
page_size = 1024

-- the head of the file
abbrev pub file_head : List ℕ
file_head =
    codes "SQLite format 3" ++ 0 ∷ []  -- 0: what kind of file it is
    ++ to_be_bytes w16 page_size  -- 16: the size of a page
    ++ to_be_bytes w8 2  -- 18: whoever writes keeps a write-ahead log
    ++ to_be_bytes w8 2  -- 19: and so does whoever reads
    ++ to_be_bytes w8 0  -- 20: how many bytes at the end of each page are reserved
    ++ to_be_bytes w8 64  -- 21: the largest share of a page for one row, always 64
    ++ to_be_bytes w8 32  -- 22: the least, always 32
    ++ to_be_bytes w8 32  -- 23: that of a leaf, always 32
    ++ to_be_bytes w32 0  -- 24: how often the file was changed
    ++ to_be_bytes w32 1  -- 28: how many pages it has
    ++ to_be_bytes w32 0  -- 32: the first page of the list of free ones
    ++ to_be_bytes w32 0  -- 36: how many are free
    ++ to_be_bytes w32 1  -- 40: how often the tables were changed, counted from 1
    ++ to_be_bytes w32 4  -- 44: the format of what is said of the tables
    ++ to_be_bytes w32 0  -- 48: how many pages are to be kept in memory; no wish
    ++ to_be_bytes w32 0  -- 52: the last root of a tree where the file gives back free pages by itself; it does not
    ++ to_be_bytes w32 1  -- 56: texts are UTF-8
    ++ to_be_bytes w32 0  -- 60: the user's version
    ++ to_be_bytes w32 0  -- 64: whether free pages are given back step by step
    ++ to_be_bytes w32 0  -- 68: the application's number
    ++ replicate 20 0  -- 72: kept for later
    ++ to_be_bytes w32 0  -- 92: for which change the number of pages holds
    ++ to_be_bytes w32 3045000  -- 96: the release of SQLite whose format it is, 3.45.0

-- what the tree of tables has in the first page: it is a leaf, and empty
abbrev pub empty_leaf : List ℕ
empty_leaf =
    to_be_bytes w8 13  -- 100: a leaf of a table
    ++ to_be_bytes w16 0  -- 101: the first free piece between rows
    ++ to_be_bytes w16 0  -- 103: how many rows it has
    ++ to_be_bytes w16 page_size  -- 105: where they begin, at the end of the page
    ++ to_be_bytes w8 0  -- 107: how many bytes between them are lost

-- all that is known of an empty database
abbrev pub heads : List ℕ
heads = file_head ++ empty_leaf

-- the whole page
unfoldable pub first_page : List ℕ
first_page = heads ++ replicate (page_size - length heads) 0
