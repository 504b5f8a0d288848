use Rattle.page_file.specs.FirstPage as wanted
use Rattle.sqlite_pool.specs.Header as library
use Rattle.page_file.proofs.page.first_page.Goals as goal

pub returns-clause-format : goal.returns-clause-format
unfolding wanted.first_page
returns-clause-format c =
    rw (c.copy_from_slice.ensures.after, c.copy_from_slice-2.ensures.after, c.copy_from_slice-3.ensures.after)

pub returns-clause-library : goal.returns-clause-library
unfolding library.first_page
returns-clause-library c =
    rw (c.copy_from_slice.ensures.after, c.copy_from_slice-2.ensures.after, c.copy_from_slice-3.ensures.after)
