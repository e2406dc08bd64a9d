mod Dues
