pub mod SortedTable
